-- Pages that blocks own.
use Rattle.std.proofs.Common.{ℕ, List, ◌++◌, arith}
use Rattle.store_model.specs.Layout.{Layout}
use Rattle.store_model.specs.Space.{Block, IsOwnedPage}
use Rattle.store_model.proofs.PlaceLaws.{owners-append}

-- a page of some blocks, with others behind them or in front
pub page-front : (layout : Layout) (blocks more : List Block) (p : ℕ) → IsOwnedPage layout blocks p → IsOwnedPage layout (blocks ++ more) p
page-front layout blocks more p page = record { at = page.at; is = page.is; within = page.within; owned = omega (arith, page.owned, owners-append blocks more page.at) }

pub page-behind : (layout : Layout) (more blocks : List Block) (p : ℕ) → IsOwnedPage layout blocks p → IsOwnedPage layout (more ++ blocks) p
page-behind layout more blocks p page = record { at = page.at; is = page.is; within = page.within; owned = omega (arith, page.owned, owners-append more blocks page.at) }

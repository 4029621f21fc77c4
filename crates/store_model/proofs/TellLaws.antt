-- States that tell the contents that their pages hold verify, and they tell them on each image that has those pages alike.
use Rattle.std.proofs.Common.{◌≡◌, ℕ, List, Some}
use Rattle.std.specs.FinMap.{FinMap, get}
use Rattle.store_model.specs.Disk.{Image}
use Rattle.store_model.specs.Holds.{IsPoured}
use Rattle.store_model.specs.Key.{key_order}
use Rattle.store_model.specs.Layout.{Layout, data_page}
use Rattle.store_model.specs.Reading.{Found, Opened, Reads}
use Rattle.store_model.specs.Stands.{DoAllTell, DoAllVerify}
use Rattle.store_model.specs.State.{State}
use Rattle.store_model.proofs.FoundLaws.{Gives-tuples}
use Rattle.store_model.proofs.VerifyAgreeLaws.{Verifies-agree}
use Rattle.store_model.proofs.VerifyLaws.{Verifies-Holds}
use Rattle.store_model.proofs.WindowHeldLaws.{Holds-agree}

-- Where each state tells the content that its pages hold, each verifies.
pub DoAllVerify-told : (pages : ℕ) (image : Image) (found : Found) → Reads pages image (Opened found) → DoAllTell image found.layout found.states
    → DoAllVerify image found.layout found.states
DoAllVerify-told pages image found reads tell key state there =
    let one = tell key state there in
    Verifies-Holds image (data_page found.layout) state one.0 (Gives-tuples pages image found reads.0 key state there).stands one.1 one.2

-- An image has the pages alike that have the contents of these states.
abbrev pub AreContentsAlike : Layout → FinMap key_order State → Image → Image → Type 0
AreContentsAlike layout states image other =
    (key : List ℕ) (state : State) (p : ℕ) → get states key ≡ Some state → IsPoured layout state 0 p → other p ≡ image p

module _ (layout : Layout) (states : FinMap key_order State) (image other : Image) (alike : AreContentsAlike layout states image other) where
  -- So what verifies on one does on the other,
  pub DoAllVerify-agree : DoAllVerify image layout states → DoAllVerify other layout states
  DoAllVerify-agree verify key state there = Verifies-agree layout image other state (λ p poured. alike key state p there poured) (verify key state there)

  -- and what is told is told.
  pub DoAllTell-agree : DoAllTell image layout states → DoAllTell other layout states
  DoAllTell-agree tell key state there =
      let one = tell key state there in
      (one.0, one.1, Holds-agree layout image other state one.0 (λ p poured. alike key state p there poured) one.2)

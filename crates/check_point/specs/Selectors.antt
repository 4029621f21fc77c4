-- The selector's page.
use Rattle.std.specs.Prelude.{ℕ, ◌==◌, List, if◌then◌else◌}
use Rattle.store_model.specs.Disk.{page_of, zero_page}
use Rattle.store_model.specs.Half.{selector_text}

-- the page that picks a half: the text, filled with zeros, for half 1, and zeros for half 0
abbrev pub selector_page : ℕ → List ℕ
selector_page half = if half == 1 then page_of selector_text else zero_page

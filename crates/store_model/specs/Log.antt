-- The log area of a half: its gates, and the bodies behind them.
use Rattle.std.specs.Prelude.{ℕ, ◌+◌, ◌*◌, ◌/◌, ◌<◌, ◌≡◌, Bool, List, take, drop, codes, bytes_eq}
use Rattle.store_model.specs.Disk.{page_bytes, page_of}
use Rattle.store_model.specs.Layout.{log_page}

-- the first bytes of an open gate
abbrev pub gate_text : List ℕ
gate_text = codes "GATEOPEN"

-- A gate as it is written when it's opened; a closed one is a page of zeros.
abbrev pub open_page : List ℕ
open_page = page_of gate_text

-- whether a gate that reads as these bytes is open
abbrev pub is_open : List ℕ → Bool
is_open page = bytes_eq (take 8 page) gate_text

-- how many pages a half's log area has
abbrev pub log_pages : ℕ
log_pages = 512

-- page n of a half's log area
abbrev pub at_log : ℕ → ℕ → ℕ
at_log half n = log_page half + n

-- the least number of pages that hold so many bytes
abbrev pub body_pages : ℕ → ℕ
body_pages count = (count + 4095) / page_bytes

-- page i of a body: its bytes from 4096 * i on, filled with zeros
abbrev pub body_page : List ℕ → ℕ → List ℕ
body_page body i = page_of (take page_bytes (drop (page_bytes * i) body))

-- one of the `count` pages from page `from` of a half's log area on
pub record IsLogPage (half from count p : ℕ) : Type 0 where
  pub at : ℕ
  pub below : at < count
  pub is : p ≡ log_page half + from + at

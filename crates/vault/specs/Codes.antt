-- Codes of what a vault holds, by which proofs tell its values apart.
use Rattle.std.specs.Prelude.{ℕ, Option}
use Rattle.std.specs.Coded.{Coded, coded_list, coded_option, coded_ℕ}
use Rattle.std.specs.FinMap.{FinMap, code}
use Rattle.store_model.specs.Key.{key_order}

-- the numbers that were read, by keys
abbrev pub reads_code : Coded (FinMap key_order (Option ℕ))
reads_code = code (coded_list coded_ℕ) (coded_option coded_ℕ)

-- The bytes of a content.
use Rattle.std.specs.Prelude.{ℕ, List}
use Rattle.store_model.specs.Script.{made_bytes}
use Rattle.blob_script.specs.declared.content.Content.{Content}
use Rattle.blob_script.specs.declared.content.Content.TheVariants.{Hex, Made}

-- those of its digits, or the made ones
abbrev pub content_bytes : Content → List ℕ
content_bytes (Hex bytes) = bytes
content_bytes (Made len first) = made_bytes len first

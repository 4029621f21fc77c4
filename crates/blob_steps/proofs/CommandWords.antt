-- The words of a command line are one form.
use Rattle.std.proofs.Common.{◌≡◌, ℕ, List, true, false, bytes_eq, decimal, arith, codes, refl, sym, ◌∙◌, ap}
use Rattle.std.proofs.lemmas.Slice.Eq.{bytes_eq-Decides}
use Rattle.std.proofs.lemmas.Fmt.{decimal_injective}
use Rattle.store_model.specs.Form.{Check, Form, Format, Fresh, IsForm, IsOfFile, IsOfLayout, Show, Steps}
use Rattle.store_model.specs.Layout.{IsLayout, Layout}

-- two layouts whose numbers are spelled alike
layout-one : (one two : Layout) → IsLayout one → IsLayout two → decimal one.units ≡ decimal two.units → decimal one.room ≡ decimal two.room → one ≡ two
layout-one one two first second same_units same_room =
    let units : one.units ≡ two.units =
    decimal_injective one.units two.units (omega (arith, first.most_units)) (omega (arith, second.most_units)) same_units in
    let room : one.room ≡ two.room =
    decimal_injective one.room two.room (omega (arith, first.most_room)) (omega (arith, second.most_room)) same_room in
    λ i. record { units = units i; room = room i }

-- words have one verb
verb-one : (verb other : List ℕ) (words rest more : List (List ℕ)) → IsOfFile verb words rest → IsOfFile other words more → verb ≡ other
verb-one verb other words rest more one two =
    let mine = one.words_are in
    let yours = two.words_are in
    cc

-- words with a layout have one
of_layout-one : (verb : List ℕ) (words : List (List ℕ)) (one two : Layout) → IsOfLayout verb words one → IsOfLayout verb words two → one ≡ two
of_layout-one verb words one two first second =
    let mine = first.file.words_are in
    let yours = second.file.words_are in
    let units : decimal one.units ≡ decimal two.units = cc in
    let room : decimal one.room ≡ decimal two.room = cc in
    layout-one one two first.within second.within units room

true-not_false : true ≡ false → ⊥
true-not_false same = cc

format-not_fresh : codes "format" ≡ codes "fresh" → ⊥
format-not_fresh same = cc

format-not_show : codes "format" ≡ codes "show" → ⊥
format-not_show same = cc

format-not_check : codes "format" ≡ codes "check" → ⊥
format-not_check same = cc

fresh-not_show : codes "fresh" ≡ codes "show" → ⊥
fresh-not_show same = cc

fresh-not_check : codes "fresh" ≡ codes "check" → ⊥
fresh-not_check same =
    let alike : bytes_eq (codes "fresh") (codes "check") ≡ true = (bytes_eq-Decides (codes "fresh") (codes "check")).1 same in
    let unlike : bytes_eq (codes "fresh") (codes "check") ≡ false = refl in
    true-not_false (sym alike ∙ unlike)

show-not_check : codes "show" ≡ codes "check" → ⊥
show-not_check same = cc

format-not_steps : codes "format" ≡ codes "steps" → ⊥
format-not_steps same =
    let alike : bytes_eq (codes "format") (codes "steps") ≡ true = (bytes_eq-Decides (codes "format") (codes "steps")).1 same in
    let unlike : bytes_eq (codes "format") (codes "steps") ≡ false = refl in
    true-not_false (sym alike ∙ unlike)

fresh-not_steps : codes "fresh" ≡ codes "steps" → ⊥
fresh-not_steps same =
    let alike : bytes_eq (codes "fresh") (codes "steps") ≡ true = (bytes_eq-Decides (codes "fresh") (codes "steps")).1 same in
    let unlike : bytes_eq (codes "fresh") (codes "steps") ≡ false = refl in
    true-not_false (sym alike ∙ unlike)

show-not_steps : codes "show" ≡ codes "steps" → ⊥
show-not_steps same =
    let alike : bytes_eq (codes "show") (codes "steps") ≡ true = (bytes_eq-Decides (codes "show") (codes "steps")).1 same in
    let unlike : bytes_eq (codes "show") (codes "steps") ≡ false = refl in
    true-not_false (sym alike ∙ unlike)

check-not_steps : codes "check" ≡ codes "steps" → ⊥
check-not_steps same =
    let alike : bytes_eq (codes "check") (codes "steps") ≡ true = (bytes_eq-Decides (codes "check") (codes "steps")).1 same in
    let unlike : bytes_eq (codes "check") (codes "steps") ≡ false = refl in
    true-not_false (sym alike ∙ unlike)

-- words are one form
pub form-one : (words : List (List ℕ)) (one two : Form) → IsForm words one → IsForm words two → one ≡ two
form-one words (Format one) (Format two) first second = ap Format (of_layout-one (codes "format") words one two first second)
form-one words (Fresh one) (Fresh two) first second = ap Fresh (of_layout-one (codes "fresh") words one two first second)
form-one words Show Show first second = λ i. Show
form-one words Check Check first second = λ i. Check
form-one words (Format one) (Fresh two) first second = absurd (format-not_fresh (verb-one _ _ words _ _ first.file second.file))
form-one words (Fresh one) (Format two) first second = absurd (format-not_fresh (verb-one _ _ words _ _ second.file first.file))
form-one words (Format one) Show first second = absurd (format-not_show (verb-one _ _ words _ _ first.file second))
form-one words Show (Format two) first second = absurd (format-not_show (verb-one _ _ words _ _ second.file first))
form-one words (Format one) Check first second = absurd (format-not_check (verb-one _ _ words _ _ first.file second))
form-one words Check (Format two) first second = absurd (format-not_check (verb-one _ _ words _ _ second.file first))
form-one words (Fresh one) Show first second = absurd (fresh-not_show (verb-one _ _ words _ _ first.file second))
form-one words Show (Fresh two) first second = absurd (fresh-not_show (verb-one _ _ words _ _ second.file first))
form-one words (Fresh one) Check first second = absurd (fresh-not_check (verb-one _ _ words _ _ first.file second))
form-one words Check (Fresh two) first second = absurd (fresh-not_check (verb-one _ _ words _ _ second.file first))
form-one words Show Check first second = absurd (show-not_check (verb-one _ _ words _ _ first second))
form-one words Check Show first second = absurd (show-not_check (verb-one _ _ words _ _ second first))
form-one words Steps Steps first second = λ i. Steps
form-one words (Format one) Steps first second = absurd (format-not_steps (verb-one _ _ words _ _ first.file second))
form-one words Steps (Format two) first second = absurd (format-not_steps (verb-one _ _ words _ _ second.file first))
form-one words (Fresh one) Steps first second = absurd (fresh-not_steps (verb-one _ _ words _ _ first.file second))
form-one words Steps (Fresh two) first second = absurd (fresh-not_steps (verb-one _ _ words _ _ second.file first))
form-one words Show Steps first second = absurd (show-not_steps (verb-one _ _ words _ _ first second))
form-one words Steps Show first second = absurd (show-not_steps (verb-one _ _ words _ _ second first))
form-one words Check Steps first second = absurd (check-not_steps (verb-one _ _ words _ _ first second))
form-one words Steps Check first second = absurd (check-not_steps (verb-one _ _ words _ _ second first))

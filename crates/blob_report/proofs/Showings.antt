-- The report of a show.
use Rattle.std.proofs.Common.{◌≡◌, ℕ, ◌+◌, Bool, Some, List, [], ◌++◌, codes, decimal, take, drop, sym, ap, ◌∙◌}
use Rattle.std.specs.Prelude.{slice_get}
use Rattle.std.proofs.lemmas.Grind.{flat_map-append}
use Rattle.std.proofs.lemmas.List.{append_assoc, flat_map_more, take-append-drop}
use Rattle.hex.specs.Hex.{encode_lower}
use Rattle.blob_script.specs.declared.status.Status.{Status}
use Rattle.blob_script.specs.declared.status.Status.TheVariants as status
use Rattle.disk_model.specs.declared.disk.Disk as disk_trait
use Rattle.group_plan.proofs.Walks.{take-next}
use Rattle.io_ends.specs.declared.traits.Sink as sink_trait
use Rattle.store_model.specs.Answer.{line_end}
use Rattle.store_model.specs.Report.{state_line}
use Rattle.store_model.specs.State.{State}
use Rattle.blob_report.specs.Ends.{EndsPrinting}
use Rattle.blob_report.specs.Reports.{BrokenOff, IsShown, Showed, states_text}

-- the line of a state, of its parts
pub line-is : (line key : List ℕ) (size born : ℕ) (digest : List ℕ) (state : State)
    → line ≡ key ++ codes " " ++ decimal size ++ codes " " ++ encode_lower digest ++ codes " " ++ decimal born ++ line_end
    → size ≡ state.size → digest ≡ state.digest → born ≡ state.born → line ≡ state_line (key, state)
line-is line key size born digest state is size_is digest_is born_is =
    is ∙ ap (λ (n : ℕ). key ++ codes " " ++ decimal n ++ codes " " ++ encode_lower digest ++ codes " " ++ decimal born ++ line_end) size_is
    ∙ ap (λ (d : List ℕ). key ++ codes " " ++ decimal state.size ++ codes " " ++ encode_lower d ++ codes " " ++ decimal born ++ line_end) digest_is
    ∙ ap (λ (n : ℕ). key ++ codes " " ++ decimal state.size ++ codes " " ++ encode_lower state.digest ++ codes " " ++ decimal n ++ line_end) born_is

-- one line more
pub states-next : (es : List (List ℕ × State)) (i : ℕ) (one : List ℕ × State) → slice_get es i ≡ Some one
    → states_text (take i es) ++ state_line one ≡ states_text (take (i + 1) es)
states-next es i one there = flat_map_more state_line [] (take i es) one ∙ ap states_text (sym (take-next es i one there))

-- what stands behind it
pub states-whole : (es : List (List ℕ × State)) (i : ℕ) (one : List ℕ × State) → slice_get es i ≡ Some one
    → states_text es ≡ states_text (take i es) ++ (state_line one ++ states_text (drop (i + 1) es))
states-whole es i one there =
    sym (ap states_text (take-append-drop (i + 1) es)) ∙ flat_map-append state_line (take (i + 1) es) (drop (i + 1) es)
    ∙ ap (λ text. text ++ states_text (drop (i + 1) es)) (sym (states-next es i one there))
    ∙ append_assoc (states_text (take i es)) (state_line one) (states_text (drop (i + 1) es))

-- a show that is broken off
pub show-broken : {K D : Type 0} (sink : sink_trait.Ghosts K) (g : disk_trait.Ghosts D) (how : Status) (frugal : Bool) (before now : ℕ) (sink_old sink_new : K) (old new : D)
    → EndsPrinting how frugal before now → BrokenOff sink g IsShown sink_old sink_new old → Showed sink g how sink_old sink_new old new
show-broken sink g status.Done frugal before now sink_old sink_new old new ends broken = absurd ends
show-broken sink g (status.Malformed line) frugal before now sink_old sink_new old new ends broken = absurd ends
show-broken sink g (status.NotBuilt line) frugal before now sink_old sink_new old new ends broken = absurd ends
show-broken sink g status.ReadFault frugal before now sink_old sink_new old new ends broken = absurd ends
show-broken sink g status.WriteFault frugal before now sink_old sink_new old new ends broken = broken
show-broken sink g status.DiskFault frugal before now sink_old sink_new old new ends broken = absurd ends
show-broken sink g (status.Refused why) frugal before now sink_old sink_new old new ends broken = absurd ends
show-broken sink g status.OutOfMemory frugal before now sink_old sink_new old new ends broken = broken
show-broken sink g status.Usage frugal before now sink_old sink_new old new ends broken = absurd ends
show-broken sink g (status.Damaged key link want got) frugal before now sink_old sink_new old new ends broken = absurd ends

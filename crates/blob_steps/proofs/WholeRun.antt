-- The run of a command line as a whole.
use Rattle.std.proofs.Common.{◌≡◌, ℕ, ◌≤◌, ◌↔◌, List, Option, Some, None, IfSome, IfNone, subst}
use Rattle.std.proofs.Math.Nat.{le_refl}
use Rattle.blob_base.specs.Faults.{KeepsEnd}
use Rattle.blob_base.proofs.FaultLaws.{KeepsEnd-then, Rose-until}
use Rattle.blob_script.specs.Words.{model_form}
use Rattle.blob_script.specs.declared.form.Form as command
use Rattle.blob_script.specs.declared.form.Form.TheVariants as command_form
use Rattle.blob_script.specs.declared.status.Status.{Status}
use Rattle.blob_script.specs.declared.status.Status.TheVariants as status
use Rattle.disk_model.specs.declared.disk.Disk as disk_trait
use Rattle.io_ends.specs.declared.traits.Source as source_trait
use Rattle.io_ends.specs.declared.traits.Sink as sink_trait
use Rattle.blob_steps.specs.Forms.{Did, IsReportedBy, LeftAlone, Run}
use Rattle.blob_steps.specs.Runs.{Closed, Counts, IsRaised, KeepsEnds, counts_of}
use Rattle.store_model.specs.Form.{Check, Form, IsForm, IsNoForm}
use Rattle.blob_steps.proofs.Closings.{Closed-since}
use Rattle.blob_steps.proofs.CommandWords.{form-one}

-- a fault told stays told
raised_until : (how : Status) (before now last : Counts) → now.source ≤ last.source → now.sink ≤ last.sink → now.disk ≤ last.disk → IsRaised how before now
    → IsRaised how before last
raised_until status.Done before now last source sink disk rose = tt
raised_until (status.Malformed line) before now last source sink disk rose = tt
raised_until (status.NotBuilt line) before now last source sink disk rose = tt
raised_until status.ReadFault before now last source sink disk rose = Rose-until before.source now.source last.source rose source
raised_until status.WriteFault before now last source sink disk rose = Rose-until before.sink now.sink last.sink rose sink
raised_until status.DiskFault before now last source sink disk rose = Rose-until before.disk now.disk last.disk rose disk
raised_until (status.Refused why) before now last source sink disk rose = tt
raised_until status.OutOfMemory before now last source sink disk rose = tt
raised_until status.Usage before now last source sink disk rose = tt
raised_until (status.Damaged key link want got) before now last source sink disk rose = tt

-- a form that was read is no missing one
some_form : (form : command.Form) → Some form ≡ None → ⊥
some_form form same = cc

no_check : None ≡ Some command_form.Check → ⊥
no_check same = cc

-- the form of the words is a check exactly where a check was read
is_check : (words : List (List ℕ)) (form : command.Form) → IsForm words (model_form form) → Some form ≡ Some command_form.Check → IsForm words Check
is_check words command_form.Check is same = is
is_check words command_form.Show is same = absurd cc
is_check words command_form.Steps is same = absurd cc
is_check words (command_form.Format units room) is same = absurd cc
is_check words (command_form.Fresh units room) is same = absurd cc

show_apart : model_form command_form.Show ≡ Check → ⊥
show_apart same = cc

steps_apart : model_form command_form.Steps ≡ Check → ⊥
steps_apart same = cc

format_apart : (units room : ℕ) → model_form (command_form.Format units room) ≡ Check → ⊥
format_apart units room same = cc

fresh_apart : (units room : ℕ) → model_form (command_form.Fresh units room) ≡ Check → ⊥
fresh_apart units room same = cc

check_read : (words : List (List ℕ)) (form : command.Form) → IsForm words (model_form form) → IsForm words Check → Some form ≡ Some command_form.Check
check_read words command_form.Check is check = λ i. Some command_form.Check
check_read words command_form.Show is check = absurd (show_apart (form-one words (model_form command_form.Show) Check is check))
check_read words command_form.Steps is check = absurd (steps_apart (form-one words (model_form command_form.Steps) Check is check))
check_read words (command_form.Format units room) is check =
    absurd (format_apart units room (form-one words (model_form (command_form.Format units room)) Check is check))
check_read words (command_form.Fresh units room) is check =
    absurd (fresh_apart units room (form-one words (model_form (command_form.Fresh units room)) Check is check))

-- what words a form that was read has
pub with_words : (words : List (List ℕ)) (asked : Option command.Form) → IfSome asked (λ form. IsForm words (model_form form))
    → IfSome asked (λ form. (some : List (List ℕ)) × IsForm some (model_form form))
with_words words None is = tt
with_words words (Some form) is = (words, is)

-- what the ends keep with the closing line
keeps_closed : {S K D : Type 0} (source : source_trait.Ghosts S) (sink : sink_trait.Ghosts K) (disk : disk_trait.Ghosts D)
    (source_old : S) (sink_old : K) (disk_old : D) (source_new : S) (sink_mid sink_new : K) (disk_new : D)
    → KeepsEnds source sink disk source_old sink_old disk_old source_new sink_mid disk_new → KeepsEnd sink.faults sink.frugal sink_mid sink_new
    → KeepsEnds source sink disk source_old sink_old disk_old source_new sink_new disk_new
keeps_closed source sink disk source_old sink_old disk_old source_new sink_mid sink_new disk_new keeps kept = record {
  of_source = keeps.of_source;
  of_sink = KeepsEnd-then sink.faults sink.frugal sink_old sink_mid sink_new keeps.of_sink kept;
  of_disk = keeps.of_disk;
}

-- The closing line, or the report in its place, behind what the form of the words did.
pub whole_run : {S K D : Type 0} (source : source_trait.Ghosts S) (sink : sink_trait.Ghosts K) (disk : disk_trait.Ghosts D) (words : List (List ℕ))
    (asked : Option command.Form) (source_old : S) (sink_old : K) (disk_old : D) (how : Status) (source_new : S) (sink_mid sink_new : K) (disk_new : D)
    → IfSome asked (λ form. IsForm words (model_form form)) → IfNone asked (IsNoForm words)
    → (how ≡ status.Usage) ↔ (asked ≡ None)
    → (asked ≡ None → LeftAlone source_old sink_old disk_old source_new sink_mid disk_new)
    → IfSome asked (λ form. Did source sink disk (model_form form) source_old sink_old disk_old how source_new sink_mid disk_new)
    → IsRaised how (counts_of source sink disk source_old sink_old disk_old) (counts_of source sink disk source_new sink_mid disk_new)
    → KeepsEnds source sink disk source_old sink_old disk_old source_new sink_mid disk_new
    → ((IsReportedBy asked how → ⊥) → Closed how (sink.frugal sink_mid) (sink.faults sink_mid) (sink.faults sink_new) (sink.taken sink_mid) (sink.taken sink_new))
    → (IsReportedBy asked how → sink_new ≡ sink_mid)
    → KeepsEnd sink.faults sink.frugal sink_mid sink_new
    → Run source sink disk words source_old sink_old disk_old how source_new sink_new disk_new
whole_run source sink disk words None source_old sink_old disk_old how source_new sink_mid sink_new disk_new is none usage alone did raised keeps closed reported kept = record {
  usage = (λ used. none, λ no. usage.1 (λ i. None));
  sink_before = sink_mid;
  alone = λ no. alone (λ i. None);
  did = λ form words_are. absurd (none form words_are);
  closing = λ free. Closed-since how (sink.frugal sink_old) (sink.frugal sink_mid) (sink.faults sink_old) (sink.faults sink_mid) (sink.faults sink_new)
      (sink.taken sink_mid) (sink.taken sink_new) keeps.of_sink.later keeps.of_sink.same (closed (λ by. no_check by.check));
  reported = λ by. absurd (none Check by.check);
  faults = raised_until how (counts_of source sink disk source_old sink_old disk_old) (counts_of source sink disk source_new sink_mid disk_new)
      (counts_of source sink disk source_new sink_new disk_new) (le_refl (source.faults source_new)) kept.later (le_refl (disk.faults disk_new)) raised;
  keeps = keeps_closed source sink disk source_old sink_old disk_old source_new sink_mid sink_new disk_new keeps kept;
}
whole_run source sink disk words (Some form) source_old sink_old disk_old how source_new sink_mid sink_new disk_new is none usage alone did raised keeps closed reported kept = record {
  usage = (λ used. absurd (some_form form (usage.0 used)), λ no. absurd (no (model_form form) is));
  sink_before = sink_mid;
  alone = λ no. absurd (no (model_form form) is);
  did = λ other words_are.
      subst (λ (f : Form). Did source sink disk f source_old sink_old disk_old how source_new sink_mid disk_new)
      (form-one words (model_form form) other is words_are) did;
  closing = λ free. Closed-since how (sink.frugal sink_old) (sink.frugal sink_mid) (sink.faults sink_old) (sink.faults sink_mid) (sink.faults sink_new)
      (sink.taken sink_mid) (sink.taken sink_new) keeps.of_sink.later keeps.of_sink.same
      (closed (λ by. free (record { check = is_check words form is by.check; damage = by.damage })));
  reported = λ by. reported (record { check = check_read words form is by.check; damage = by.damage });
  faults = raised_until how (counts_of source sink disk source_old sink_old disk_old) (counts_of source sink disk source_new sink_mid disk_new)
      (counts_of source sink disk source_new sink_new disk_new) (le_refl (source.faults source_new)) kept.later (le_refl (disk.faults disk_new)) raised;
  keeps = keeps_closed source sink disk source_old sink_old disk_old source_new sink_mid sink_new disk_new keeps kept;
}

-- The closing line of a run, and what the three ends keep.
use Rattle.std.proofs.Common.{◌≡◌, ℕ, ◌≤◌, ◌⊎◌, inl, inr, Bool, false, List, [], Option, sym, ◌∙◌, append-nil, Result, Ok, Err, OnOk, IfErr}
use Rattle.blob_base.specs.Faults.{Rose}
use Rattle.blob_base.proofs.FaultLaws.{KeepsEnd-none, KeepsEnd-then, Rose-since}
use Rattle.blob_report.specs.Ends.{BrokeOff, EndsPrinting, HasPrinted}
use Rattle.blob_script.specs.Endings.{ending_of}
use Rattle.blob_script.specs.declared.status.Status.{Status}
use Rattle.blob_script.specs.declared.status.Status.TheVariants as status
use Rattle.disk_model.proofs.DiskLaws.{Keeps-none, Keeps-then}
use Rattle.disk_model.specs.declared.disk.Disk.{Ghosts}
use Rattle.io_ends.specs.declared.traits.Source as source_trait
use Rattle.io_ends.specs.declared.traits.Sink as sink_trait
use Rattle.blob_steps.specs.Runs.{Closed, KeepsEnds}
use Rattle.store_model.specs.Closing.{closing_text}

-- why a closing line was cut short
closing_whole : (one : Status) (frugal : Bool) (before now : ℕ) → EndsPrinting one frugal before now → Rose before now ⊎ (frugal ≡ false)
closing_whole status.WriteFault frugal before now ends = inl ends
closing_whole status.OutOfMemory frugal before now ends = inr ends
closing_whole (status.Malformed line) frugal before now ends = absurd ends
closing_whole (status.NotBuilt line) frugal before now ends = absurd ends
closing_whole status.ReadFault frugal before now ends = absurd ends
closing_whole status.Done frugal before now ends = absurd ends
closing_whole status.DiskFault frugal before now ends = absurd ends
closing_whole (status.Refused why) frugal before now ends = absurd ends
closing_whole status.Usage frugal before now ends = absurd ends
closing_whole (status.Damaged key link want got) frugal before now ends = absurd ends

either_way : {A B C : Type 0} → B ⊎ C → A ⊎ B ⊎ C
either_way e = inr e

-- the reasons for a closing line cut short, since an earlier count
since_earlier : {A : Type 0} (first before now : ℕ) (was frugal : Bool) → first ≤ before → frugal ≡ was → A ⊎ Rose before now ⊎ (frugal ≡ false) → A ⊎ Rose first now ⊎ (was ≡ false)
since_earlier first before now was frugal later same (inl whole) = inl whole
since_earlier first before now was frugal later same (inr (inl rose)) = inr (inl (Rose-since first before now later rose))
since_earlier first before now was frugal later same (inr (inr none)) = inr (inr (sym same ∙ none))

-- the closing line, however its printing went
pub Closed-printed : {K : Type 0} (g : sink_trait.Ghosts K) (one : Status) (old new : K) (text : List ℕ) (printed : Result (Unit {0}) Status)
    → text ≡ closing_text (ending_of one) → OnOk printed (HasPrinted g text old new) → IfErr printed (λ s. BrokeOff g text s old new)
    → Closed one (g.frugal old) (g.faults old) (g.faults new) (g.taken old) (g.taken new)
Closed-printed g one old new text (Ok x) is ok broke = record {
  line = text;
  took = ok.took;
  front = record { rest = []; whole_is = sym is ∙ sym (append-nil text) };
  whole = inl is;
}
Closed-printed g one old new text (Err s) is ok broke = record {
  line = broke.front.text;
  took = broke.front.took;
  front = record { rest = broke.front.front.rest; whole_is = sym is ∙ broke.front.front.whole_is };
  whole = either_way (closing_whole s (g.frugal old) (g.faults old) (g.faults new) broke.ends);
}

-- the same since an earlier count
pub Closed-since : (one : Status) (was frugal : Bool) (first before now : ℕ) (old new : Option (List ℕ)) → first ≤ before → frugal ≡ was → Closed one frugal before now old new → Closed one was first now old new
Closed-since one was frugal first before now old new later same closed = record {
  line = closed.line;
  took = closed.took;
  front = closed.front;
  whole = since_earlier first before now was frugal later same closed.whole;
}

-- what the ends keep, where none was called, and from one call to the next
module _ {S K D : Type 0} (source : source_trait.Ghosts S) (sink : sink_trait.Ghosts K) (disk : Ghosts D) where
  pub KeepsEnds-none : (from : S) (to : K) (on : D) → KeepsEnds source sink disk from to on from to on
  KeepsEnds-none from to on = record {
    of_source = KeepsEnd-none source.faults source.frugal from;
    of_sink = KeepsEnd-none sink.faults sink.frugal to;
    of_disk = Keeps-none disk on;
  }

  pub KeepsEnds-then : (from from_mid from_new : S) (to to_mid to_new : K) (on on_mid on_new : D) → KeepsEnds source sink disk from to on from_mid to_mid on_mid
      → KeepsEnds source sink disk from_mid to_mid on_mid from_new to_new on_new → KeepsEnds source sink disk from to on from_new to_new on_new
  KeepsEnds-then from from_mid from_new to to_mid to_new on on_mid on_new one other = record {
    of_source = KeepsEnd-then source.faults source.frugal from from_mid from_new one.of_source other.of_source;
    of_sink = KeepsEnd-then sink.faults sink.frugal to to_mid to_new one.of_sink other.of_sink;
    of_disk = Keeps-then disk on on_mid on_new one.of_disk other.of_disk;
  }

-- Checks of states one behind the other.
use Rattle.std.proofs.Common.{◌≡◌, ℕ, zero, suc, ◌+◌, ◌≤◌, Bool, Option, None, Some, List, [], ◌∷◌, ◌++◌, length, codes, decimal, refl, sym, ap, ◌∙◌, subst, arith}
use Rattle.std.specs.Prelude.{IsTrue, slice_get}
use Rattle.std.specs.FinMap.{entries, len}
use Rattle.std.proofs.KnownBytes.{Appends-nil, Appends-trans}
use Rattle.std.proofs.lemmas.Grind.{flat_map-append}
use Rattle.std.proofs.lemmas.List.{append-nil, append_assoc, length-append}
use Rattle.blob_base.specs.Faults.{CameFrom}
use Rattle.blob_base.specs.declared.faults.IoFault.{IoFault}
use Rattle.blob_base.specs.declared.faults.IoFault.TheVariants as io
use Rattle.blob_base.proofs.FaultLaws.{KeepsEnd-none, KeepsEnd-then, Rose-since}
use Rattle.blob_script.specs.declared.status.Status.{Status}
use Rattle.blob_script.specs.declared.status.Status.TheVariants as status
use Rattle.disk_model.specs.Disks.{OnlyReads}
use Rattle.disk_model.specs.declared.disk.Disk as disk_trait
use Rattle.disk_model.proofs.DiskLaws.{OnlyReads-then}
use Rattle.io_ends.specs.declared.traits.Sink as sink_trait
use Rattle.relation.specs.Parts.{Parts}
use Rattle.store_model.specs.Answer.{line_end}
use Rattle.store_model.specs.Disk.{Image}
use Rattle.store_model.specs.Layout.{Layout, data_page}
use Rattle.store_model.specs.Reading.{Found}
use Rattle.store_model.specs.Report.{AreDamages, Damage, check_text, damage_line}
use Rattle.store_model.specs.State.{State}
use Rattle.store_model.specs.Verify.{FailsFirst, Verifies, computed}
use Rattle.vault.specs.Faults.{IsUnread, gather_fault_of}
use Rattle.vault.specs.declared.fault.Cause.{Cause}
use Rattle.vault.specs.declared.fault.GatherFault.{GatherFault}
use Rattle.vault.specs.declared.fault.GatherFault.TheVariants as gather
use Rattle.vault.specs.declared.memory.Memory.{Memory}
use Rattle.blob_report.specs.Checks.{AddsTo, BrokeCheck, DidCheck, FirstNamed, HasCounted, IsFault, WasChecked}
use Rattle.blob_report.specs.Ends.{BrokeOff, EndsPrinting, HasPrinted, IsCaused, disk_ending}
use Rattle.blob_report.specs.Reports.{IsOfLink, damages_text}
use Rattle.blob_report.specs.declared.checking.Checked.{Checked}
use Rattle.blob_report.proofs.Damages.{AreDamages-one, AreDamages-some, AreDamages-then, AreDamages-whole}
use Rattle.blob_report.proofs.Printings.{BrokeOff-then, EndsPrinting-caused, HasPrinted-none, HasPrinted-then, IsFront-behind}

-- an element of a list, with others behind it or before it
slice_get-front : (es fs : List (List ℕ × State)) (i : ℕ) (e : List ℕ × State) → slice_get es i ≡ Some e → slice_get (es ++ fs) i ≡ Some e
slice_get-front [] fs i e there = absurd cc
slice_get-front (x ∷ es) fs zero e there = there
slice_get-front (x ∷ es) fs (suc i) e there = slice_get-front es fs i e there

slice_get-behind : (es fs : List (List ℕ × State)) (i : ℕ) (e : List ℕ × State) → slice_get fs i ≡ Some e → slice_get (es ++ fs) (length es + i) ≡ Some e
slice_get-behind [] fs i e there = let same : i ≡ length {A = List ℕ × State} [] + i = omega arith in subst (λ (n : ℕ). slice_get fs n ≡ Some e) same there
slice_get-behind (x ∷ es) fs i e there =
    let same : suc (length es + i) ≡ length (x ∷ es) + i = omega arith in
    subst (λ (n : ℕ). slice_get (x ∷ es ++ fs) n ≡ Some e) same (slice_get-behind es fs i e there)

-- the entry at an index of a relation in memory, under a copy of its key, where memory is as it was
pub entry-held : (relation : Parts) (now first : Memory) (i : ℕ) (key : List ℕ) (one : List ℕ × State) → relation ≡ now.relation → now ≡ first
    → slice_get (entries relation.states) i ≡ Some (key, one.1) → one.0 ≡ key → slice_get (entries first.relation.states) i ≡ Some one
entry-held relation now first i key one held same there copy =
    subst (λ (r : Parts). slice_get (entries r.states) i ≡ Some one) (held ∙ ap (λ (m : Memory). m.relation) same)
    (there ∙ ap (λ (k : List ℕ). Some (k, one.1)) (sym copy))

-- the damages of states and of others behind them
FirstNamed-then : (es fs : List (List ℕ × State)) (a b : List Damage) → FirstNamed es a → FirstNamed fs b → FirstNamed (es ++ fs) (a ++ b)
FirstNamed-then es fs [] [] one other = tt
FirstNamed-then es fs [] (d ∷ b) one other = (length es + other.0, (other.1.0, slice_get-behind es fs other.0 (d.key, other.1.0) other.1.1, other.1.2))
FirstNamed-then es fs (d ∷ a) b one other = (one.0, (one.1.0, slice_get-front es fs one.0 (d.key, one.1.0) one.1.1, one.1.2))

-- the cause of a fault since an earlier time
pub IsCaused-since : (how : Status) (first before now disk_first disk_before disk_now : ℕ) → first ≤ before → disk_first ≤ disk_before
    → IsCaused how before now disk_before disk_now → IsCaused how first now disk_first disk_now
IsCaused-since status.Done first before now disk_first disk_before disk_now less disk_less caused = tt
IsCaused-since (status.Malformed line) first before now disk_first disk_before disk_now less disk_less caused = tt
IsCaused-since (status.NotBuilt line) first before now disk_first disk_before disk_now less disk_less caused = tt
IsCaused-since status.ReadFault first before now disk_first disk_before disk_now less disk_less caused = tt
IsCaused-since status.WriteFault first before now disk_first disk_before disk_now less disk_less caused = Rose-since first before now less caused
IsCaused-since status.DiskFault first before now disk_first disk_before disk_now less disk_less caused = Rose-since disk_first disk_before disk_now disk_less caused
IsCaused-since (status.Refused why) first before now disk_first disk_before disk_now less disk_less caused = tt
IsCaused-since status.OutOfMemory first before now disk_first disk_before disk_now less disk_less caused = tt
IsCaused-since status.Usage first before now disk_first disk_before disk_now less disk_less caused = tt
IsCaused-since (status.Damaged key link want got) first before now disk_first disk_before disk_now less disk_less caused = tt

-- what breaks printing off is a fault
printing-fault : (how : Status) (frugal : Bool) (before now : ℕ) → EndsPrinting how frugal before now → IsFault how
printing-fault status.Done frugal before now ends = absurd ends
printing-fault (status.Malformed line) frugal before now ends = absurd ends
printing-fault (status.NotBuilt line) frugal before now ends = absurd ends
printing-fault status.ReadFault frugal before now ends = absurd ends
printing-fault status.WriteFault frugal before now ends = tt
printing-fault status.DiskFault frugal before now ends = absurd ends
printing-fault (status.Refused why) frugal before now ends = absurd ends
printing-fault status.OutOfMemory frugal before now ends = tt
printing-fault status.Usage frugal before now ends = absurd ends
printing-fault (status.Damaged key link want got) frugal before now ends = absurd ends

-- and so is a disk's
disk-fault : (cause : IoFault) → IsFault (disk_ending cause)
disk-fault io.Failed = tt
disk-fault io.OutOfMemory = tt

disk-caused : (cause : IoFault) (frugal : Bool) (sink_before sink_now before now : ℕ) → CameFrom cause before now frugal → IsCaused (disk_ending cause) sink_before sink_now before now
disk-caused io.Failed frugal sink_before sink_now before now came = came
disk-caused io.OutOfMemory frugal sink_before sink_now before now came = tt

-- a content of a vault that isn't shut isn't read where the disk failed
pub read-failed : (was : Option Cause) (before now : ℕ) (frugal : Bool) (fault : GatherFault) → was ≡ None → IsUnread (λ number. ⊥) was before now frugal fault
    → (cause : IoFault) × (fault ≡ gather_fault_of cause) × CameFrom cause before now frugal
read-failed was before now frugal (gather.Shut why) none unread = absurd (cc (none, unread))
read-failed was before now frugal (gather.Stale number) none unread = absurd unread.1
read-failed was before now frugal gather.Failed none unread = (io.Failed, refl, unread.1)
read-failed was before now frugal gather.OutOfMemory none unread = (io.OutOfMemory, refl, unread.1)

-- the last line of a check, which found so many damages
abbrev pub last_text : Found → ℕ → List ℕ
last_text found count = codes "checked " ++ decimal (len found.states) ++ codes " damaged " ++ decimal count ++ line_end

text-is : (a b c d e f : List ℕ) → a ++ b ++ c ++ d ++ e ++ f ≡ a ++ (b ++ c ++ d ++ e ++ f)
text-is a b c d e f =
    ap (λ (t : List ℕ). t ++ f)
    (ap (λ (t : List ℕ). t ++ e) (ap (λ (t : List ℕ). t ++ d) (append_assoc a b c) ∙ append_assoc a (b ++ c) d) ∙ append_assoc a (b ++ c ++ d) e)
    ∙ append_assoc a (b ++ c ++ d ++ e) f

pub check_text-is : (found : Found) (damages : List Damage) → check_text found damages ≡ damages_text damages ++ last_text found (length damages)
check_text-is found damages =
    text-is (damages_text damages) (codes "checked ") (decimal (len found.states)) (codes " damaged ") (decimal (length damages)) line_end

pub last-is : (line : List ℕ) (found : Found) (states damaged count : ℕ) → line ≡ codes "checked " ++ decimal states ++ codes " damaged " ++ decimal damaged ++ line_end
    → states ≡ len found.states → damaged ≡ count → line ≡ last_text found count
last-is line found states damaged count is states_is damaged_is =
    is ∙ ap (λ (n : ℕ). codes "checked " ++ decimal n ++ codes " damaged " ++ decimal damaged ++ line_end) states_is
    ∙ ap (λ (n : ℕ). codes "checked " ++ decimal (len found.states) ++ codes " damaged " ++ decimal n ++ line_end) damaged_is

module _ {K D : Type 0} (sink : sink_trait.Ghosts K) (g : disk_trait.Ghosts D) where
  -- a state that verifies
  pub DidCheck-whole : (layout : Layout) (key : List ℕ) (state : State) (checked : Checked) (on : K) (old new : D)
      → (IsTrue g.tells → Verifies (g.story old).reads (data_page layout) state) → OnlyReads g old new
      → DidCheck sink g layout ((key, state) ∷ []) (AddsTo checked checked) on on old new
  DidCheck-whole layout key state checked on old new verifies only = record {
    damages = [];
    are = λ tells. AreDamages-whole (g.story old).reads (data_page layout) key state (verifies tells);
    named = tt;
    few = omega arith;
    counted = λ damages counted. subst (HasCounted checked) (sym (append-nil damages)) counted;
    printed = HasPrinted-none sink on;
    only = only;
  }

  -- one that is damaged
  pub DidCheck-one : (layout : Layout) (key : List ℕ) (state : State) (one : Damage) (before after : Checked) (on to : K) (old new : D) → one.key ≡ key
      → (IsTrue g.tells → FailsFirst (computed (g.story old).reads (data_page layout) state) state one.link one.want one.got) → IsOfLink state one
      → AddsTo before after (one ∷ []) → HasPrinted sink (damage_line one) on to → OnlyReads g old new
      → DidCheck sink g layout ((key, state) ∷ []) (AddsTo before after) on to old new
  DidCheck-one layout key state one before after on to old new same fails link adds printed only = record {
    damages = one ∷ [];
    are = λ tells. AreDamages-one (g.story old).reads (data_page layout) key state one same (fails tells);
    named = (0, (state, ap (λ (k : List ℕ). Some (k, state)) (sym same), link));
    few = omega arith;
    counted = adds;
    printed = subst (λ (t : List ℕ). HasPrinted sink t on to) (sym (append-nil (damage_line one))) printed;
    only = only;
  }

  -- one whose line is broken off
  pub BrokeCheck-line : (layout : Layout) (key : List ℕ) (state : State) (one : Damage) (how : Status) (on to : K) (old new : D) → one.key ≡ key
      → (IsTrue g.tells → FailsFirst (computed (g.story old).reads (data_page layout) state) state one.link one.want one.got)
      → BrokeOff sink (damage_line one) how on to → OnlyReads g old new
      → BrokeCheck sink g damages_text layout ((key, state) ∷ []) how on to old new
  BrokeCheck-line layout key state one how on to old new same fails broke only = record {
    damages = one ∷ [];
    are = λ tells. AreDamages-one (g.story old).reads (data_page layout) key state one same (fails tells);
    front = record {
      text = broke.front.text;
      took = broke.front.took;
      front = record { rest = broke.front.front.rest; whole_is = append-nil (damage_line one) ∙ broke.front.front.whole_is };
    };
    fault = printing-fault how (sink.frugal on) (sink.faults on) (sink.faults to) broke.ends;
    caused = EndsPrinting-caused how (sink.frugal on) (sink.faults on) (sink.faults to) (g.faults old) (g.faults new) broke.ends;
    keeps = broke.keeps;
    only = only;
  }

  -- one whose pages aren't read
  pub BrokeCheck-disk : (layout : Layout) (es : List (List ℕ × State)) (how : Status) (cause : IoFault) (on : K) (old new : D) → how ≡ disk_ending cause
      → CameFrom cause (g.faults old) (g.faults new) (g.frugal old) → OnlyReads g old new → BrokeCheck sink g damages_text layout es how on on old new
  BrokeCheck-disk layout es how cause on old new same came only =
      let some = AreDamages-some (g.story old).reads (data_page layout) es in
      record {
        damages = some.0;
        are = λ tells. some.1;
        front = record { text = []; took = Appends-nil (sink.taken on); front = record { rest = damages_text some.0; whole_is = refl } };
        fault = subst IsFault (sym same) (disk-fault cause);
        caused = subst (λ (s : Status). IsCaused s (sink.faults on) (sink.faults on) (g.faults old) (g.faults new)) (sym same)
            (disk-caused cause (g.frugal old) (sink.faults on) (sink.faults on) (g.faults old) (g.faults new) came);
        keeps = KeepsEnd-none sink.faults sink.frugal on;
        only = only;
      }

  -- states, and then others
  pub DidCheck-then : (layout : Layout) (es fs : List (List ℕ × State)) (A B C : List Damage → Type 0) (first on to : K) (old mid new : D)
      → ((a b : List Damage) → A a → B b → C (a ++ b)) → DidCheck sink g layout es A first on old mid → DidCheck sink g layout fs B on to mid new
      → DidCheck sink g layout (es ++ fs) C first to old new
  DidCheck-then layout es fs A B C first on to old mid new both one other = record {
    damages = one.damages ++ other.damages;
    are = λ tells. AreDamages-then (g.story old).reads (data_page layout) es fs one.damages other.damages (one.are tells)
        (subst (λ (i : Image). AreDamages i (data_page layout) fs other.damages) (one.only.stayed tells).reads (other.are tells));
    named = FirstNamed-then es fs one.damages other.damages one.named other.named;
    few = omega (arith, one.few, other.few, length-append one.damages other.damages, length-append es fs);
    counted = both one.damages other.damages one.counted other.counted;
    printed = subst (λ (t : List ℕ). HasPrinted sink t first to) (sym (flat_map-append damage_line one.damages other.damages))
        (HasPrinted-then sink (damages_text one.damages) (damages_text other.damages) first on to one.printed other.printed);
    only = OnlyReads-then g old mid new one.only other.only;
  }

  -- states, and then others whose check is broken off
  pub BrokeCheck-then : (layout : Layout) (es fs more whole : List (List ℕ × State)) (A : List Damage → Type 0) (how : Status) (first on to : K) (old mid new : D)
      → whole ≡ es ++ (fs ++ more) → DidCheck sink g layout es A first on old mid → BrokeCheck sink g damages_text layout fs how on to mid new
      → BrokeCheck sink g damages_text layout whole how first to old new
  BrokeCheck-then layout es fs more whole A how first on to old mid new whole_is one other =
      let image : Image = (g.story old).reads in
      let rest = AreDamages-some image (data_page layout) more in
      record {
        damages = one.damages ++ (other.damages ++ rest.0);
        are = λ tells.
            subst (λ (all : List (List ℕ × State)). AreDamages image (data_page layout) all (one.damages ++ (other.damages ++ rest.0))) (sym whole_is)
            (AreDamages-then image (data_page layout) es (fs ++ more) one.damages (other.damages ++ rest.0) (one.are tells)
            (AreDamages-then image (data_page layout) fs more other.damages rest.0
            (subst (λ (i : Image). AreDamages i (data_page layout) fs other.damages) (one.only.stayed tells).reads (other.are tells)) rest.1));
        front = record {
          text = damages_text one.damages ++ other.front.text;
          took = Appends-trans (sink.taken first) (sink.taken on) (sink.taken to) (damages_text one.damages) other.front.text one.printed.took other.front.took;
          front = IsFront-behind (damages_text one.damages) other.front.text (damages_text other.damages) (damages_text (one.damages ++ (other.damages ++ rest.0)))
              (damages_text rest.0) other.front.front
              (flat_map-append damage_line one.damages (other.damages ++ rest.0)
              ∙ ap (λ (t : List ℕ). damages_text one.damages ++ t) (flat_map-append damage_line other.damages rest.0));
        };
        fault = other.fault;
        caused = IsCaused-since how (sink.faults first) (sink.faults on) (sink.faults to) (g.faults old) (g.faults mid) (g.faults new) one.printed.keeps.later
            one.only.keeps.end.later other.caused;
        keeps = KeepsEnd-then sink.faults sink.frugal first on to one.printed.keeps other.keeps;
        only = OnlyReads-then g old mid new one.only other.only;
      }

  -- the check of a store is broken off with that of its states
  pub BrokeCheck-states : (found : Found) (how : Status) (on to : K) (old new : D) → BrokeCheck sink g damages_text found.layout (entries found.states) how on to old new
      → BrokeCheck sink g (check_text found) found.layout (entries found.states) how on to old new
  BrokeCheck-states found how on to old new broke = record {
    damages = broke.damages;
    are = broke.are;
    front = record {
      text = broke.front.text;
      took = broke.front.took;
      front = record {
        rest = broke.front.front.rest ++ last_text found (length broke.damages);
        whole_is =
            check_text-is found broke.damages ∙ ap (λ (t : List ℕ). t ++ last_text found (length broke.damages)) broke.front.front.whole_is
            ∙ append_assoc broke.front.text broke.front.front.rest (last_text found (length broke.damages));
      };
    };
    fault = broke.fault;
    caused = broke.caused;
    keeps = broke.keeps;
    only = broke.only;
  }

  -- or with its last line
  pub BrokeCheck-last : (found : Found) (A : List Damage → Type 0) (how : Status) (first on to : K) (old new : D)
      → (did : DidCheck sink g found.layout (entries found.states) A first on old new) → BrokeOff sink (last_text found (length did.damages)) how on to
      → BrokeCheck sink g (check_text found) found.layout (entries found.states) how first to old new
  BrokeCheck-last found A how first on to old new did broke =
      let last = last_text found (length did.damages) in
      let both = BrokeOff-then sink (damages_text did.damages) last [] (check_text found did.damages) how first on to
      (check_text-is found did.damages ∙ ap (λ (t : List ℕ). damages_text did.damages ++ t) (sym (append-nil last))) did.printed broke in
      record {
        damages = did.damages;
        are = did.are;
        front = both.front;
        fault = printing-fault how (sink.frugal first) (sink.faults first) (sink.faults to) both.ends;
        caused = EndsPrinting-caused how (sink.frugal first) (sink.faults first) (sink.faults to) (g.faults old) (g.faults new) both.ends;
        keeps = both.keeps;
        only = did.only;
      }

  -- a store was checked
  pub WasChecked-by : (found : Found) (checked : Checked) (first on to : K) (old new : D)
      → (did : DidCheck sink g found.layout (entries found.states) (HasCounted checked) first on old new)
      → HasPrinted sink (last_text found (length did.damages)) on to → WasChecked sink g found checked.verdict first to old new
  WasChecked-by found checked first on to old new did printed = record {
    damages = did.damages;
    are = did.are;
    named = did.named;
    verdict_is = did.counted.verdict_is;
    printed = subst (λ (t : List ℕ). HasPrinted sink t first to) (sym (check_text-is found did.damages))
        (HasPrinted-then sink (damages_text did.damages) (last_text found (length did.damages)) first on to did.printed printed);
    only = did.only;
  }

-- Texts that are printed one behind the other.
use Rattle.std.proofs.Common.{◌≡◌, ℕ, ◌≤◌, Bool, List, [], ◌++◌, take, drop, sym, ap, ◌∙◌, subst}
use Rattle.std.proofs.KnownBytes.{Appends-nil, Appends-trans}
use Rattle.std.proofs.lemmas.List.{append_assoc, take-append-drop}
use Rattle.std.specs.Io.KnownBytes.{Appends}
use Rattle.blob_base.specs.Faults.{CameFrom, KeepsEnd}
use Rattle.blob_base.specs.declared.faults.IoFault.{IoFault}
use Rattle.blob_base.specs.declared.faults.IoFault.TheVariants as io
use Rattle.blob_base.proofs.FaultLaws.{KeepsEnd-none, KeepsEnd-then, Rose-since}
use Rattle.blob_script.specs.declared.status.Status.{Status}
use Rattle.blob_script.specs.declared.status.Status.TheVariants as status
use Rattle.io_ends.specs.declared.traits.Sink as sink_trait
use Rattle.blob_report.specs.Ends.{BrokeOff, EndsPrinting, HasPrinted, IsCaused, IsFront, print_ending}

-- the end of printing that began later
EndsPrinting-since : (how : Status) (one other : Bool) (first before now : ℕ) → first ≤ before → other ≡ one → EndsPrinting how other before now → EndsPrinting how one first now
EndsPrinting-since status.Done one other first before now less same ends = absurd ends
EndsPrinting-since (status.Malformed line) one other first before now less same ends = absurd ends
EndsPrinting-since (status.NotBuilt line) one other first before now less same ends = absurd ends
EndsPrinting-since status.ReadFault one other first before now less same ends = absurd ends
EndsPrinting-since status.WriteFault one other first before now less same ends = Rose-since first before now less ends
EndsPrinting-since status.DiskFault one other first before now less same ends = absurd ends
EndsPrinting-since (status.Refused why) one other first before now less same ends = absurd ends
EndsPrinting-since status.OutOfMemory one other first before now less same ends = sym same ∙ ends
EndsPrinting-since status.Usage one other first before now less same ends = absurd ends
EndsPrinting-since (status.Damaged key link want got) one other first before now less same ends = absurd ends

-- the end of a text that wasn't taken whole
pub EndsPrinting-print : (cause : IoFault) (frugal : Bool) (before now : ℕ) → CameFrom cause before now frugal → EndsPrinting (print_ending cause) frugal before now
EndsPrinting-print io.Failed frugal before now came = came
EndsPrinting-print io.OutOfMemory frugal before now came = came

-- it has its cause
pub EndsPrinting-caused : (how : Status) (frugal : Bool) (before now disk_before disk_now : ℕ) → EndsPrinting how frugal before now
    → IsCaused how before now disk_before disk_now
EndsPrinting-caused status.Done frugal before now disk_before disk_now ends = tt
EndsPrinting-caused (status.Malformed line) frugal before now disk_before disk_now ends = tt
EndsPrinting-caused (status.NotBuilt line) frugal before now disk_before disk_now ends = tt
EndsPrinting-caused status.ReadFault frugal before now disk_before disk_now ends = tt
EndsPrinting-caused status.WriteFault frugal before now disk_before disk_now ends = ends
EndsPrinting-caused status.DiskFault frugal before now disk_before disk_now ends = absurd ends
EndsPrinting-caused (status.Refused why) frugal before now disk_before disk_now ends = tt
EndsPrinting-caused status.OutOfMemory frugal before now disk_before disk_now ends = tt
EndsPrinting-caused status.Usage frugal before now disk_before disk_now ends = tt
EndsPrinting-caused (status.Damaged key link want got) frugal before now disk_before disk_now ends = tt

-- the first bytes of a text are a front of it
pub IsFront-take : (gone : ℕ) (text : List ℕ) → IsFront (take gone text) text
IsFront-take gone text = record { rest = drop gone text; whole_is = sym (take-append-drop gone text) }

-- a front of what stands behind a text, with the text before it
pub IsFront-behind : (a front whole all : List ℕ) (more : List ℕ) → IsFront front whole → all ≡ a ++ (whole ++ more) → IsFront (a ++ front) all
IsFront-behind a front whole all more is all_is = record {
  rest = is.rest ++ more;
  whole_is =
      all_is ∙ ap (λ xs. a ++ (xs ++ more)) is.whole_is ∙ ap (λ xs. a ++ xs) (append_assoc front is.rest more)
      ∙ sym (append_assoc a front (is.rest ++ more));
}

module _ {K : Type 0} (g : sink_trait.Ghosts K) where
  pub HasPrinted-none : (sink : K) → HasPrinted g [] sink sink
  HasPrinted-none sink = record { took = Appends-nil (g.taken sink); keeps = KeepsEnd-none g.faults g.frugal sink }

  pub HasPrinted-then : (a b : List ℕ) (old mid new : K) → HasPrinted g a old mid → HasPrinted g b mid new → HasPrinted g (a ++ b) old new
  HasPrinted-then a b old mid new one other = record {
    took = Appends-trans (g.taken old) (g.taken mid) (g.taken new) a b one.took other.took;
    keeps = KeepsEnd-then g.faults g.frugal old mid new one.keeps other.keeps;
  }

  -- a text is broken off, of which the first part has been printed
  pub BrokeOff-then : (a b more whole : List ℕ) (how : Status) (old mid new : K) → whole ≡ a ++ (b ++ more) → HasPrinted g a old mid → BrokeOff g b how mid new → BrokeOff g whole how old new
  BrokeOff-then a b more whole how old mid new whole_is one other = record {
    front = record {
      text = a ++ other.front.text;
      took = Appends-trans (g.taken old) (g.taken mid) (g.taken new) a other.front.text one.took other.front.took;
      front = IsFront-behind a other.front.text b whole more other.front.front whole_is;
    };
    ends = EndsPrinting-since how (g.frugal old) (g.frugal mid) (g.faults old) (g.faults mid) (g.faults new) one.keeps.later one.keeps.same other.ends;
    keeps = KeepsEnd-then g.faults g.frugal old mid new one.keeps other.keeps;
  }

  -- a put that stopped
  pub BrokeOff-put : (gone : ℕ) (text : List ℕ) (cause : IoFault) (how : Status) (old new : K) → Appends (g.taken old) (g.taken new) (take gone text)
      → CameFrom cause (g.faults old) (g.faults new) (g.frugal old) → KeepsEnd g.faults g.frugal old new → how ≡ print_ending cause → BrokeOff g text how old new
  BrokeOff-put gone text cause how old new took came keeps same =
      subst (λ (s : Status). BrokeOff g text s old new) (sym same)
      (record {
        front = record { text = take gone text; took = took; front = IsFront-take gone text };
        ends = EndsPrinting-print cause (g.frugal old) (g.faults old) (g.faults new) came;
        keeps = keeps;
      })

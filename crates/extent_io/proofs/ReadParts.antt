-- Steps of verifying the bytes that were read, whichever these are.
use Rattle.std.proofs.Common.{◌≡◌, ℕ, ◌+◌, ◌-◌, ◌*◌, ◌/◌, ◌%◌, ◌<◌, ◌≤◌, List, [], ◌++◌, length, take, drop, append_assoc, length-append, refl, sym, ap, ◌∙◌, subst, arith}
use Rattle.std.specs.Prelude.{Err, IfOk, Ok, Result, nat_lt, true, false, replicate}
use Rattle.blob_base.specs.declared.faults.IoFault.{IoFault}
use Rattle.std.proofs.lemmas.List.{length-replicate}
use Rattle.std.proofs.Math.Seq.{drop-append_seam, take-append_seam}
use Rattle.std.proofs.lemmas.Bool.Decides.{nat_tests}
use Rattle.store_model.specs.Disk.{page_bytes}
use Rattle.store_model.specs.Hash.{Leads, bytes_of_state, close, state_after}
use Rattle.store_model.specs.Shape.{pages_used}
use Rattle.store_model.specs.State.{IsState, State}
use Rattle.store_model.specs.Verify.{IsDamage, LeadsTo, given, kept, link_from, link_value}
use Rattle.store_model.proofs.HashLaws.{Leads-empty}
use Rattle.extent_io.specs.Pages.{part_begin}
use Rattle.extent_io.specs.ReadBytes.{ClosesOver, GivesOver, LeadOver}
use Rattle.extent_io.proofs.Verifyings.{HoldBelow, HoldBelow-next, part-given, part_begin-end, part_begin-next, part_begin-none, part_begin-tail, part_begin-within}

-- The bytes of the first links were read, and each of these holds over each content that begins with them.
pub record Read (state : State) (link : ℕ) : Type 0 where
  pub bytes : List ℕ
  pub size : length bytes ≡ part_begin state link
  pub holds : (rest : List ℕ) → length (bytes ++ rest) ≡ state.size → HoldBelow (given (bytes ++ rest) state) state link

-- no link yet
pub Read-none : (state : State) → Read state 0
Read-none state = record {
  bytes = [];
  size = sym (part_begin-none state);
  holds = λ rest whole i below. absurd (omega (arith, below));
}

-- a link gives over a content what it gives over its own bytes
given-over : (state : State) (link : ℕ) (before part rest value : List ℕ) → IsState state → link ≤ length state.extents
    → length before ≡ part_begin state link → part_begin state link + length part ≡ part_begin state (link + 1)
    → value ≡ link_value (λ _. part) part state link → length (before ++ (part ++ rest)) ≡ state.size → value ≡ given (before ++ (part ++ rest)) state link
given-over state link before part rest value sound most begins ends is whole =
    let begin = part_begin state link in
    let end = part_begin state (link + 1) in
    let count : length part ≡ end - begin = omega (arith, ends) in
    is ∙ part-given state (before ++ (part ++ rest)) part link begin end sound whole most refl refl
    (sym (take-append_seam part rest) ∙ ap (λ (n : ℕ). take n (part ++ rest)) count
    ∙ ap (take (end - begin)) (sym (drop-append_seam before (part ++ rest)) ∙ ap (λ (n : ℕ). drop n (before ++ (part ++ rest))) begins))

-- one more link holds
pub Read-next : (state : State) (link : ℕ) (want got : List ℕ) → IsState state → link ≤ length state.extents → want ≡ kept state link → want ≡ got
    → Read state link → GivesOver state link got → Read state (link + 1)
Read-next state link want got sound most want_is same read over = record {
  bytes = read.bytes ++ over.bytes;
  size = length-append read.bytes over.bytes ∙ ap (λ (n : ℕ). n + length over.bytes) read.size ∙ over.size;
  holds = λ rest whole.
      let seam : (read.bytes ++ over.bytes) ++ rest ≡ read.bytes ++ (over.bytes ++ rest) = append_assoc read.bytes over.bytes rest in
      let all : length (read.bytes ++ (over.bytes ++ rest)) ≡ state.size = sym (ap length seam) ∙ whole in
      subst (λ (content : List ℕ). HoldBelow (given content state) state (link + 1)) (sym seam)
      (HoldBelow-next (given (read.bytes ++ (over.bytes ++ rest)) state) state link want got want_is same
      (given-over state link read.bytes over.bytes rest got sound most read.size over.size over.value_is all)
      (read.holds (over.bytes ++ rest) all));
}

-- a link fails
pub IsDamage-read : (state : State) (link : ℕ) (want got : List ℕ) → IsState state → link ≤ length state.extents → want ≡ kept state link → (want ≡ got → ⊥)
    → Read state link → GivesOver state link got → IsDamage state link want got
IsDamage-read state link want got sound most want_is differ read over =
    let zeros : List ℕ = replicate (state.size - part_begin state (link + 1)) 0 in
    let content = read.bytes ++ (over.bytes ++ zeros) in
    let whole : length content ≡ state.size = omega (
      arith,
      length-append read.bytes (over.bytes ++ zeros),
      length-append over.bytes zeros,
      length-replicate {A = ℕ} (state.size - part_begin state (link + 1)) 0,
      part_begin-within state (link + 1),
      read.size,
      over.size,
    ) in record {
      content = content;
      size = whole;
      fails = record {
        exists = most;
        before = read.holds (over.bytes ++ zeros) whole;
        want_is = want_is;
        got_is = given-over state link read.bytes over.bytes zeros got sound most read.size over.size over.value_is whole;
        differ = differ;
      };
    }

-- an answer that says which link fails
pub damage-as : (state : State) (a link : ℕ) (b want c got : List ℕ) → IsDamage state a b c → a ≡ link → b ≡ want → c ≡ got → IsDamage state link want got
damage-as state a link b want c got damage one two three =
    subst (λ (n : ℕ). IsDamage state n want got) one
    (subst (λ (xs : List ℕ). IsDamage state a xs got) two (subst (λ (xs : List ℕ). IsDamage state a b xs) three damage))

-- all links hold
pub LeadsTo-read : (state : State) (link : ℕ) → link ≡ length state.extents + 1 → Read state link → (content : List ℕ) × LeadsTo content state
LeadsTo-read state link all read =
    let last : link ≡ length state.extents + 1 = all in
    let end : part_begin state (length state.extents + 1) ≡ state.size = part_begin-end state (length state.extents) refl in
    let whole : length (read.bytes ++ []) ≡ state.size =
    length-append read.bytes [] ∙ omega (arith, read.size, ap (part_begin state) last, end) in (
      read.bytes ++ [],
      record {
        size = whole;
        links = λ i most. read.holds [] whole i (omega (arith, most, last));
      },
    )

-- no page yet, and one more
pub LeadOver-none : (before mark : List ℕ) → mark ≡ before → LeadOver 0 before mark
LeadOver-none before mark same = record { bytes = []; size = refl; leads = Leads-empty before ∙ sym same }

pub LeadOver-next : (number : ℕ) (before mark next page : List ℕ) → length page ≡ page_bytes → LeadOver number before mark
    → ((h done : List ℕ) → length done % 64 ≡ 0 → Leads h done mark → Leads h (done ++ page) next) → LeadOver (number + 1) before next
LeadOver-next number before mark next page long over longer = record {
  bytes = over.bytes ++ page;
  size = omega (arith, length-append over.bytes page, over.size, long);
  leads = longer before over.bytes (omega (arith, over.size)) over.leads;
}

link_value-below : (extent : ℕ → List ℕ) (tail : List ℕ) (state : State) (i : ℕ) → i < length state.extents
    → link_value extent tail state i ≡ bytes_of_state (state_after (link_from state i) (extent i))
link_value-below extent tail state i below =
    let yes : nat_lt i (length state.extents) ≡ true = grind (arith, nat_tests, below) in rw yes refl

link_value-last : (extent : ℕ → List ℕ) (tail : List ℕ) (state : State) (i : ℕ) → i ≡ length state.extents
    → link_value extent tail state i ≡ close (link_from state i) (64 * (state.size / page_bytes)) tail
link_value-last extent tail state i last =
    let no : nat_lt i (length state.extents) ≡ false = grind (arith, nat_tests, last) in rw no refl

-- what an extent's pages give, and what the tail's bytes give
pub GivesOver-extent : (state : State) (link : ℕ) (mark value : List ℕ) → IsState state → link < length state.extents
    → LeadOver (pages_used state.size link) (link_from state link) mark → value ≡ bytes_of_state mark → GivesOver state link value
GivesOver-extent state link mark value sound below over is = record {
  bytes = over.bytes;
  size = omega (arith, over.size, part_begin-next state link sound below);
  value_is = is ∙ ap bytes_of_state (sym over.leads) ∙ sym (link_value-below (λ _. over.bytes) over.bytes state link below);
}

pub GivesOver-tail : (state : State) (link : ℕ) (value : List ℕ) → IsState state → link ≡ length state.extents
    → ClosesOver state.size (link_from state link) value → GivesOver state link value
GivesOver-tail state link value sound last over = record {
  bytes = over.bytes;
  size = omega (arith, over.size_is, part_begin-tail state link sound last, part_begin-end state link last);
  value_is = over.closes ∙ sym (link_value-last (λ _. over.bytes) over.bytes state link last);
}

pub GivesOver-tail_ok : (state : State) (link : ℕ) (result : Result (List ℕ) IoFault) → IsState state → link ≡ length state.extents
    → IfOk result (λ bytes. ClosesOver state.size (link_from state link) bytes) → IfOk result (λ bytes. GivesOver state link bytes)
GivesOver-tail_ok state link (Ok value) sound last over = GivesOver-tail state link value sound last over
GivesOver-tail_ok state link (Err fault) sound last over = over

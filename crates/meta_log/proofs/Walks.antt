-- Steps of reading a log body by body.
use Rattle.std.proofs.Common.{◌≡◌, ℕ, ◌+◌, ◌≤◌, List, [], ◌∷◌, ◌++◌, length, Bool, refl, sym, ap, ◌∙◌, subst, arith, true, false}
use Rattle.std.specs.Prelude.{IsTrue}
use Rattle.std.specs.List.{All}
use Rattle.std.proofs.lemmas.List.{map-append}
use Rattle.std.proofs.lemmas.List.Elements.{All-append, All-cons, All-nil}
use Rattle.store_model.specs.Disk.{Calls, Image, Took}
use Rattle.store_model.specs.Images.{Story}
use Rattle.store_model.specs.Log.{at_log, body_pages, is_open}
use Rattle.store_model.specs.Layout.{log_page}
use Rattle.store_model.specs.LogReading.{AreBodies, HasBodies, IsBodyAt, LacksBody, StoredBody, gate_is_open}
use Rattle.store_model.proofs.LogReadingLaws.{AreBodies-more}
use Rattle.meta_log.specs.Reads.{IsShort, stored, stored_body}
use Rattle.meta_log.specs.declared.read.Body.{Body}
use Rattle.disk_model.proofs.Areas.{took-then}

-- The bodies before a gate are read, and whether it is open is told.
pub record Walking (tells : Bool) (half gate : ℕ) (bodies : List Body) (told : Bool) (old : Story) (was now : Calls) : Type 0 where
  pub are : IsTrue tells → AreBodies old.reads half 0 (stored bodies) gate
  pub opened : IsTrue tells → told ≡ gate_is_open old.reads half gate
  pub within : gate ≤ 511
  pub short : All IsShort bodies
  pub calls : IsTrue tells → Took (gate + 1) 0 0 was now

-- the first gate
pub Walking-first : (tells : Bool) (half log : ℕ) (bodies : List Body) (told : Bool) (old : Story) (was now : Calls) → log ≡ log_page half → bodies ≡ []
    → (IsTrue tells → told ≡ is_open (old.reads log)) → (IsTrue tells → Took 1 0 0 was now) → Walking tells half 0 bodies told old was now
Walking-first tells half log bodies told old was now log_is none opened took = record {
  are = λ tell. subst (λ (bs : List Body). AreBodies old.reads half 0 (stored bs) 0) (sym none) refl;
  opened = λ tell. opened tell ∙ ap (λ (p : ℕ). is_open (old.reads p)) (let e : log ≡ at_log half 0 = omega (arith, log_is) in e);
  within = omega arith;
  short = subst (λ (bs : List Body). All IsShort bs) (sym none) (All-nil IsShort);
  calls = took;
}

-- a body's end, and the next gate
pub Walking-next : (tells : Bool) (half log gate pages next : ℕ) (bodies more : List Body) (bytes : List ℕ) (opened told : Bool) (old mid then : Story) (a b c d : Calls)
    → log ≡ log_page half → opened ≡ true → pages ≡ body_pages (length bytes) → next ≡ gate + pages + 1 → gate + body_pages (length bytes) + 1 ≤ 511
    → Walking tells half gate bodies opened old a b
    → more ≡ bodies ++ record { page = gate; bytes = bytes } ∷ []
    → (IsTrue tells → mid.reads ≡ old.reads) → (IsTrue tells → then.reads ≡ mid.reads) → (IsTrue tells → IsBodyAt mid.reads half gate bytes)
    → (IsTrue tells → told ≡ is_open (then.reads (log + next)))
    → (IsTrue tells → Took (body_pages (length bytes)) 0 0 b c) → (IsTrue tells → Took 1 0 0 c d)
    → Walking tells half next more told old a d
Walking-next tells half log gate pages next bodies more bytes opened told old mid then a b c d log_is so pages_are next_is room walking more_is same kept stands told_is took then_took =
    let body : Body = record { page = gate; bytes = bytes } in
    let gates : next ≡ gate + body_pages (length bytes) + 1 = omega (arith, next_is, pages_are) in
    record {
      are = λ tell.
          let here = AreBodies-more old.reads half 0 gate (stored bodies) (stored_body body) (walking.are tell) refl (sym (walking.opened tell) ∙ so)
          (subst (λ (image : Image). IsBodyAt image half gate bytes) (same tell) (stands tell)) in
          subst (λ (n : ℕ). AreBodies old.reads half 0 (stored more) n) (sym gates)
          (subst (λ (bs : List StoredBody). AreBodies old.reads half 0 bs (gate + body_pages (length bytes) + 1))
          (sym (map-append stored_body bodies (body ∷ [])) ∙ ap stored (sym more_is)) here);
      opened = λ tell.
          told_is tell
          ∙ ap (λ (image : Image). is_open (image (log + next))) (kept tell ∙ same tell)
          ∙ ap (λ (p : ℕ). is_open (old.reads p)) (let e : log + next ≡ at_log half next = omega (arith, log_is) in e);
      within = omega (arith, gates, room);
      short = subst (λ (bs : List Body). All IsShort bs) (sym more_is)
          (All-append IsShort bodies (body ∷ []) walking.short (All-cons IsShort body [] (omega (arith, room)) (All-nil IsShort)));
      calls = λ tell. took-then (gate + body_pages (length bytes) + 1) 1 (next + 1) a c d (omega (arith, gates))
          (took-then (gate + 1) (body_pages (length bytes)) (gate + body_pages (length bytes) + 1) a b c (omega arith) (walking.calls tell) (took tell)) (then_took tell);
    }

-- the first closed gate
pub HasBodies-walked : (tells : Bool) (half gate : ℕ) (bodies : List Body) (told : Bool) (old : Story) (was now : Calls) → IsTrue tells → told ≡ false
    → Walking tells half gate bodies told old was now → HasBodies old.reads half (stored bodies) gate
HasBodies-walked tells half gate bodies told old was now tell closed walking = record {
  are = walking.are tell;
  within = walking.within;
  closed = sym (walking.opened tell) ∙ closed;
}

-- an open gate that no body stands behind
pub LacksBody-walked : (tells : Bool) (half gate : ℕ) (bodies : List Body) (told : Bool) (old mid : Story) (was now : Calls) → IsTrue tells → told ≡ true
    → Walking tells half gate bodies told old was now → mid.reads ≡ old.reads → ((bytes : List ℕ) → IsBodyAt mid.reads half gate bytes → ⊥)
    → LacksBody old.reads half (stored bodies) gate
LacksBody-walked tells half gate bodies told old mid was now tell so walking same none = record {
  are = walking.are tell;
  within = walking.within;
  opened = sym (walking.opened tell) ∙ so;
  none = λ bytes body. none bytes (subst (λ (image : Image). IsBodyAt image half gate bytes) (sym same) body);
}

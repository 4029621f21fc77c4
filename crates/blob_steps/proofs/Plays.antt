-- The play of a script, line by line: what is left of it plays on to the whole, and ends as the whole does.
use Rattle.std.proofs.Common.{◌≡◌, ℕ, ◌+◌, List, [], ◌∷◌, ◌++◌, Option, Some, None, refl, sym, ◌∙◌, ap, subst, append_assoc, append-nil}
use Rattle.std.specs.List.{flat_map}
use Rattle.std.proofs.lemmas.Grind.{flat_map-append}
use Rattle.blob_steps.specs.Going.{BadLine, EndsOn, PlaysOn, TakesLine, after_lines, playing}
use Rattle.blob_steps.specs.Lines.{LineTaken, NoLine}
use Rattle.store_model.specs.Cost.{Cost, with_line, with_lines}
use Rattle.store_model.specs.World as model
use Rattle.store_model.specs.Group.{Commit, taken_blocks}
use Rattle.store_model.specs.World.{Outcome}
use Rattle.store_model.specs.Placing.{new_blocks}
use Rattle.store_model.specs.Layout.{Layout}
use Rattle.store_model.specs.Play.{AtInputEnd, AtMalformed, AtUnbuilt, End, Played, PlayedLine, commits_in, line_play, play, play_lines, played_line, played_then, step_play, store_behind, taken_in, text_of}
use Rattle.store_model.specs.Script.{Asks, Checkpoint, Close, Find, Lead, Line, Ls, Malformed, Open, Order, Pread, Session, Skipped, Step, Transact, line_at, lines_of}
use Rattle.store_model.specs.Store.{Store}
use Rattle.store_model.specs.Turn as turn

-- one more line
flat_map-push : {A B : Type 0} (f : A → List B) (xs : List A) (x : A) → flat_map f (xs ++ x ∷ []) ≡ flat_map f xs ++ f x
flat_map-push f xs x = flat_map-append f xs (x ∷ []) ∙ ap (λ ys. flat_map f xs ++ ys) (append-nil (f x))

pub text_of-push : (lines : List PlayedLine) (line : PlayedLine) → text_of (lines ++ line ∷ []) ≡ text_of lines ++ line.text
text_of-push lines line = flat_map-push (λ (l : PlayedLine). l.text) lines line

commits_in-push : (lines : List PlayedLine) (line : PlayedLine) → commits_in (lines ++ line ∷ []) ≡ commits_in lines ++ line.commits
commits_in-push lines line = flat_map-push (λ (l : PlayedLine). l.commits) lines line

pub taken_in-push : (lines : List PlayedLine) (line : PlayedLine) → taken_in (lines ++ line ∷ []) ≡ taken_in lines ++ taken_blocks line.commits
taken_in-push lines line =
    ap taken_blocks (commits_in-push lines line)
    ∙ flat_map-append (λ (commit : Commit). flat_map new_blocks commit.placed) (commits_in lines) line.commits

pub store_behind-push : (start : Store) (lines : List PlayedLine) (line : PlayedLine) → store_behind start (lines ++ line ∷ []) ≡ line.store
store_behind-push start [] line = refl
store_behind-push start (one ∷ lines) line = store_behind-push one.store lines line

-- the play of what is left, where its first line asks for a step that has this outcome
playing-step : (layout : Layout) (number : ℕ) (world : model.World) (line : List ℕ) (lines : List (List ℕ)) (step : Step) (outcome : Outcome)
    → line_at number line ≡ Asks step → step_play layout world step ≡ Some outcome
    → playing layout number world (line ∷ lines) ≡ after_lines (played_line outcome ∷ []) (playing layout (number + 1) outcome.world lines)
playing-step layout number world line lines step outcome asks plays =
    ap (λ (what : Line). line_play layout world number what (play_lines layout (number + 1) lines)) asks
    ∙ ap (λ (found : Option Outcome). played_then number found (play_lines layout (number + 1) lines)) plays

-- where its verb isn't built
pub playing-unbuilt : (layout : Layout) (number : ℕ) (world : model.World) (line : List ℕ) (lines : List (List ℕ)) (step : Step)
    → line_at number line ≡ Asks step → step_play layout world step ≡ None → playing layout number world (line ∷ lines) ≡ record { lines = []; end = AtUnbuilt number }
playing-unbuilt layout number world line lines step asks plays =
    ap (λ (what : Line). line_play layout world number what (play_lines layout (number + 1) lines)) asks
    ∙ ap (λ (found : Option Outcome). played_then number found (play_lines layout (number + 1) lines)) plays

-- where its first line is skipped
playing-skipped : (layout : Layout) (number : ℕ) (world : model.World) (line : List ℕ) (lines : List (List ℕ)) → line_at number line ≡ Skipped
    → playing layout number world (line ∷ lines) ≡ playing layout (number + 1) world lines
playing-skipped layout number world line lines is =
    ap (λ (what : Line). line_play layout world number what (play_lines layout (number + 1) lines)) is

-- where it is malformed
pub playing-bad : (layout : Layout) (number : ℕ) (world : model.World) (line : List ℕ) (lines : List (List ℕ)) → line_at number line ≡ Malformed
    → playing layout number world (line ∷ lines) ≡ record { lines = []; end = AtMalformed number }
playing-bad layout number world line lines is =
    ap (λ (what : Line). line_play layout world number what (play_lines layout (number + 1) lines)) is

-- some lines, and then more, before a play
after_lines-twice : (one two : List PlayedLine) (played : Played) → after_lines one (after_lines two played) ≡ after_lines (one ++ two) played
after_lines-twice one two played = ap (λ lines. record { lines = lines; end = played.end }) (sym (append_assoc one two played.lines))

-- what is left where a line was taken off a known script
pub taken_rest : (script line : List ℕ) (left : Option (List ℕ)) → LineTaken (Some script) line left → (rest : List ℕ) × (left ≡ Some rest) × (lines_of script ≡ line ∷ lines_of rest)
taken_rest script line None taken = absurd taken
taken_rest script line (Some rest) taken = (rest, refl, taken)

-- where the first line asked for a step that has this outcome, what is left plays on behind it
pub PlaysOn-next : (layout : Layout) (start : Store) (lines : List PlayedLine) (number : ℕ) (world : model.World) (first left rest : Option (List ℕ)) (step : Step) (outcome : Outcome)
    → TakesLine number left rest (Asks step) → step_play layout world step ≡ Some outcome → PlaysOn layout start lines number world first left
    → PlaysOn layout start (lines ++ played_line outcome ∷ []) (number + 1) outcome.world first rest
PlaysOn-next layout start lines number world first left rest step outcome takes played plays script known =
    let on = plays script known in
    let taken : LineTaken (Some on.0) takes.line rest = subst (λ l. LineTaken l takes.line rest) on.1 takes.taken in
    let behind = taken_rest on.0 takes.line rest taken in
    let later : Played = playing layout (number + 1) outcome.world (lines_of behind.0) in (
      behind.0,
      behind.1,
      sym (after_lines-twice lines (played_line outcome ∷ []) later)
          ∙ ap (after_lines lines) (sym (playing-step layout number world takes.line (lines_of behind.0) step outcome takes.is played))
          ∙ ap (λ ls. after_lines lines (playing layout number world ls)) (sym behind.2)
          ∙ on.2,
    )

-- where it was skipped
pub PlaysOn-skipped : (layout : Layout) (start : Store) (lines : List PlayedLine) (number : ℕ) (world : model.World) (first left rest : Option (List ℕ))
    → TakesLine number left rest Skipped → PlaysOn layout start lines number world first left → PlaysOn layout start lines (number + 1) world first rest
PlaysOn-skipped layout start lines number world first left rest takes plays script known =
    let on = plays script known in
    let taken : LineTaken (Some on.0) takes.line rest = subst (λ l. LineTaken l takes.line rest) on.1 takes.taken in
    let behind = taken_rest on.0 takes.line rest taken in (
      behind.0,
      behind.1,
      ap (after_lines lines) (sym (playing-skipped layout number world takes.line (lines_of behind.0) takes.is))
          ∙ ap (λ ls. after_lines lines (playing layout number world ls)) (sym behind.2)
          ∙ on.2,
    )

-- the lines that were run are the first ones
pub PlaysOn-front : (layout : Layout) (start : Store) (lines : List PlayedLine) (number : ℕ) (world : model.World) (first left : Option (List ℕ))
    → PlaysOn layout start lines number world first left
    → (script : List ℕ) → first ≡ Some script → (rest : List PlayedLine) × ((play layout start script).lines ≡ lines ++ rest)
PlaysOn-front layout start lines number world first left plays script known =
    let on = plays script known in
    ((playing layout number world (lines_of on.0)).lines, sym (ap (λ (p : Played). p.lines) on.2))

-- all of them, where nothing plays behind them
pub PlaysOn-all : (layout : Layout) (start : Store) (lines : List PlayedLine) (number : ℕ) (world : model.World) (first left : Option (List ℕ)) (script : List ℕ)
    → (plays : PlaysOn layout start lines number world first left) (known : first ≡ Some script) (played : Played)
    → playing layout number world (lines_of (plays script known).0) ≡ played → played.lines ≡ []
    → (lines ≡ (play layout start script).lines) × ((play layout start script).end ≡ played.end)
PlaysOn-all layout start lines number world first left script plays known played is none =
    let on = plays script known in
    let whole : after_lines lines played ≡ play layout start script = ap (after_lines lines) (sym is) ∙ on.2 in (
      sym (append-nil lines) ∙ ap (λ ls. lines ++ ls) (sym none) ∙ ap (λ (p : Played). p.lines) whole,
      sym (ap (λ (p : Played). p.end) whole),
    )

-- what one more line costs
pub with_lines-push : (start : Store) (lines : List PlayedLine) (line : PlayedLine) (cost : Cost)
    → with_lines start (lines ++ line ∷ []) cost ≡ with_line (store_behind start lines) line.turns line.commits (with_lines start lines cost)
with_lines-push start [] line cost = refl
with_lines-push start (one ∷ lines) line cost = with_lines-push one.store lines line (with_line start one.turns one.commits cost)

-- No store changes where a script ends: whether a step is built is known by the step.
ends-step : (step : Step) (number : ℕ) (one other : Layout) (here there : model.World) (rest more : model.World → Played)
    → ((u v : model.World) → (rest u).end ≡ (more v).end)
    → (played_then number (step_play one here step) rest).end ≡ (played_then number (step_play other there step) more).end
ends-step Lead number one other here there rest more same = same (model.lead one here).world (model.lead other there).world
ends-step Checkpoint number one other here there rest more same = same here there
ends-step (Session n (Transact turn.Begin)) number one other here there rest more same = same _ _
ends-step (Session n (Transact (turn.Get key))) number one other here there rest more same = same _ _
ends-step (Session n (Transact (turn.Stat key))) number one other here there rest more same = same _ _
ends-step (Session n (Transact (turn.Put key content))) number one other here there rest more same = same _ _
ends-step (Session n (Transact (turn.Append key bytes))) number one other here there rest more same = refl
ends-step (Session n (Transact (turn.Delete key))) number one other here there rest more same = same _ _
ends-step (Session n (Transact turn.Commit)) number one other here there rest more same = same _ _
ends-step (Session n (Transact turn.Abort)) number one other here there rest more same = same _ _
ends-step (Session n (Find content)) number one other here there rest more same = refl
ends-step (Session n (Order content count)) number one other here there rest more same = refl
ends-step (Session n (Open path)) number one other here there rest more same = refl
ends-step (Session n (Ls path)) number one other here there rest more same = refl
ends-step (Session n (Pread view off len)) number one other here there rest more same = refl
ends-step (Session n (Close view)) number one other here there rest more same = refl

ends-line : (what : Line) (number : ℕ) (one other : Layout) (here there : model.World) (rest more : model.World → Played)
    → ((u v : model.World) → (rest u).end ≡ (more v).end) → (line_play one here number what rest).end ≡ (line_play other there number what more).end
ends-line Skipped number one other here there rest more same = same here there
ends-line (Asks step) number one other here there rest more same = ends-step step number one other here there rest more same
ends-line Malformed number one other here there rest more same = refl

pub ends-alike : (number : ℕ) (lines : List (List ℕ)) (one other : Layout) (here there : model.World)
    → (playing one number here lines).end ≡ (playing other number there lines).end
ends-alike number [] one other here there = refl
ends-alike number (line ∷ lines) one other here there =
    ends-line (line_at number line) number one other here there (play_lines one (number + 1) lines) (play_lines other (number + 1) lines)
    (λ u v. ends-alike (number + 1) lines one other u v)

-- what is left ends as the whole behind a line that asked for a step which is built
pub EndsOn-next : (number : ℕ) (first left rest : Option (List ℕ)) (step : Step) → TakesLine number left rest (Asks step)
    → ((layout : Layout) (world : model.World) → (outcome : Outcome) × (step_play layout world step ≡ Some outcome))
    → EndsOn number first left → EndsOn (number + 1) first rest
EndsOn-next number first left rest step takes built ends script known =
    let on = ends script known in
    let taken : LineTaken (Some on.0) takes.line rest = subst (λ l. LineTaken l takes.line rest) on.1 takes.taken in
    let behind = taken_rest on.0 takes.line rest taken in (
      behind.0,
      behind.1,
      λ layout start world.
          let outcome = built layout world in
          ends-alike (number + 1) (lines_of behind.0) layout layout world outcome.0.world
          ∙ sym (ap (λ (p : Played). p.end) (playing-step layout number world takes.line (lines_of behind.0) step outcome.0 takes.is outcome.1))
          ∙ ap (λ ls. (playing layout number world ls).end) (sym behind.2)
          ∙ on.2 layout start world,
    )

-- behind one that was skipped
pub EndsOn-skipped : (number : ℕ) (first left rest : Option (List ℕ)) → TakesLine number left rest Skipped → EndsOn number first left → EndsOn (number + 1) first rest
EndsOn-skipped number first left rest takes ends script known =
    let on = ends script known in
    let taken : LineTaken (Some on.0) takes.line rest = subst (λ l. LineTaken l takes.line rest) on.1 takes.taken in
    let behind = taken_rest on.0 takes.line rest taken in (
      behind.0,
      behind.1,
      λ layout start world.
          sym (ap (λ (p : Played). p.end) (playing-skipped layout number world takes.line (lines_of behind.0) takes.is))
          ∙ ap (λ ls. (playing layout number world ls).end) (sym behind.2)
          ∙ on.2 layout start world,
    )

-- a script ends where what is left of it does
pub EndsOn-here : (number : ℕ) (first left : Option (List ℕ)) (end : End) → EndsOn number first left
    → ((layout : Layout) (world : model.World) (script : List ℕ) → left ≡ Some script → (playing layout number world (lines_of script)).end ≡ end)
    → (layout : Layout) (start : Store) (text : List ℕ) → first ≡ Some text → (play layout start text).end ≡ end
EndsOn-here number first left end ends here layout start text known =
    let on = ends text known in
    let world : model.World = model.world_over start in
    sym (on.2 layout start world) ∙ here layout world on.0 on.1

-- at its end
pub end-over : (number : ℕ) (left : Option (List ℕ)) → NoLine left → (layout : Layout) (world : model.World) (script : List ℕ) → left ≡ Some script
    → (playing layout number world (lines_of script)).end ≡ AtInputEnd
end-over number left none layout world script is =
    let empty : lines_of script ≡ [] = subst NoLine is none in
    ap (λ ls. (playing layout number world ls).end) empty

-- at a malformed line
pub end-bad : (number : ℕ) (left : Option (List ℕ)) → BadLine number left → (layout : Layout) (world : model.World) (script : List ℕ) → left ≡ Some script
    → (playing layout number world (lines_of script)).end ≡ AtMalformed number
end-bad number left bad layout world script is =
    let line : BadLine number (Some script) = subst (BadLine number) is bad in
    ap (λ ls. (playing layout number world ls).end) line.2
    ∙ ap (λ (p : Played). p.end) (playing-bad layout number world line.0 line.1 line.3)

-- at a line whose verb isn't built
pub end-unbuilt : (number : ℕ) (left rest : Option (List ℕ)) (step : Step) → TakesLine number left rest (Asks step)
    → ((layout : Layout) (world : model.World) → step_play layout world step ≡ None) → (layout : Layout) (world : model.World) (script : List ℕ) → left ≡ Some script
    → (playing layout number world (lines_of script)).end ≡ AtUnbuilt number
end-unbuilt number left rest step takes none layout world script is =
    let taken : LineTaken (Some script) takes.line rest = subst (λ l. LineTaken l takes.line rest) is takes.taken in
    let behind = taken_rest script takes.line rest taken in
    ap (λ ls. (playing layout number world ls).end) behind.2
    ∙ ap (λ (p : Played). p.end) (playing-unbuilt layout number world takes.line (lines_of behind.0) step takes.is (none layout world))

-- A member that is added to a group.
use Rattle.std.proofs.Common.{◌≡◌, ℕ, ◌+◌, ◌<◌, ◌≤◌, List, [], ◌∷◌, ◌++◌, length, map, take, Err, refl, sym, ◌∙◌, ap, subst, arith, append-nil}
use Rattle.std.specs.List.{flat_map}
use Rattle.std.specs.List.Sorted.{IsPermutation}
use Rattle.std.specs.FinMap.{FinMap, entries}
use Rattle.std.proofs.lemmas.List.{map-append}
use Rattle.std.proofs.lemmas.List.Sorted.{IsPermutation-append_right, IsPermutation-sym, IsPermutation-trans}
use Rattle.extent_alloc.specs.Parts.{Parts}
use Rattle.frame_codec.specs.declared.entry.Entry.{Entry}
use Rattle.relation.specs.Parts.{bytes_bound, encoded_by}
use Rattle.store_model.specs.Group.{Member}
use Rattle.store_model.specs.Judgement.{Judgement, Rejection}
use Rattle.store_model.specs.Key.{key_order}
use Rattle.store_model.specs.Placing.{freed_blocks, new_blocks}
use Rattle.store_model.specs.Space.{Block}
use Rattle.store_model.specs.State.{State, greatest_number}
use Rattle.txn.specs.Requests.{asked_of}
use Rattle.txn.specs.declared.request.Request.{Request}
use Rattle.group_plan.specs.Frees.{left_by}
use Rattle.group_plan.specs.Groups.{AddsMember, member_by}
use Rattle.group_plan.specs.Judgements.{IsJudged, judgement_by}
use Rattle.group_plan.specs.Plans.{holdings_by, model_reply}
use Rattle.group_plan.specs.Takings.{IsListed, Moves}
use Rattle.group_plan.specs.Touches.{write_keys}
use Rattle.group_plan.specs.declared.judging.Judged.{Judged}
use Rattle.group_plan.specs.declared.judging.Limits.{Limits}
use Rattle.group_plan.specs.declared.judging.Tally.{Tally}
use Rattle.group_plan.specs.declared.plan.Group.{Group}
use Rattle.group_plan.specs.declared.plan.Reply.{Reply}
use Rattle.group_plan.specs.declared.plan.Reply.TheVariants as reply
use Rattle.group_plan.specs.declared.takings.Takings.{Takings}
use Rattle.group_plan.proofs.Blocks.{swapped}

-- what was taken before and then is listed in that order
pub owned-listed : (more : List Block) (old now : Parts) (before listed : Takings) (rest : List Block) → Moves more old now before listed → IsPermutation old.owned (before.blocks.items ++ rest)
    → IsPermutation now.owned (listed.blocks.items ++ rest)
owned-listed more old now before listed rest moves owned =
    let blocks : List Block = before.blocks.items in
    subst (λ (bs : List Block). IsPermutation now.owned (bs ++ rest)) (sym moves.blocks)
    (IsPermutation-trans now.owned (more ++ old.owned) ((blocks ++ more) ++ rest) moves.owned
    (IsPermutation-trans (more ++ old.owned) (more ++ (blocks ++ rest)) ((blocks ++ more) ++ rest) (IsPermutation-append_right more old.owned (blocks ++ rest) owned) (swapped blocks more rest)))

take-front : (xs ys : List Block) → take (length xs) (xs ++ ys) ≡ xs
take-front [] ys = refl
take-front (x ∷ xs) ys = ap (λ (zs : List Block). x ∷ zs) (take-front xs ys)

-- the blocks behind those that were listed before
pub kept-blocks : (more : List Block) (old now : Parts) (before listed : Takings) (kept : ℕ) → kept ≡ length before.blocks.items → Moves more old now before listed → take kept listed.blocks.items ≡ before.blocks.items
kept-blocks more old now before listed kept is moves =
    ap (λ (bs : List Block). take kept bs) moves.blocks ∙ ap (λ (n : ℕ). take n (before.blocks.items ++ more)) is ∙ take-front before.blocks.items more

-- what was taken for a member was given back
pub Moves-back : (more : List Block) (old mid new : Parts) (before between after : Takings) (rest : List Block) (kept : ℕ) → kept ≡ length before.blocks.items → Moves more old mid before between → IsPermutation old.owned (before.blocks.items ++ rest)
    → after.blocks.items ≡ take kept between.blocks.items → after.spare ≡ between.spare → new.pages ≡ mid.pages → IsListed new after → IsPermutation new.owned (take kept between.blocks.items ++ rest)
    → Moves [] old new before after
Moves-back more old mid new before between after rest kept is moves owned blocks spare pages listed back =
    let same : take kept between.blocks.items ≡ before.blocks.items = kept-blocks more old mid before between kept is moves in
    record {
      owned = IsPermutation-trans new.owned (before.blocks.items ++ rest) old.owned (subst (λ (bs : List Block). IsPermutation new.owned (bs ++ rest)) same back) (IsPermutation-sym old.owned (before.blocks.items ++ rest) owned);
      pages = pages ∙ moves.pages;
      blocks = blocks ∙ same ∙ sym (append-nil before.blocks.items);
      spare = spare ∙ moves.spare;
      listed = listed;
    }

-- the member with this judgement
abbrev member_as : Group → Request → Judgement → Member
member_as group request judgement = record { asked = asked_of request; number = group.tally.last + 1; judgement = judgement }

-- it is refused
pub AddsMember-refused : (states : FinMap key_order State) (limits : Limits) (request : Request) (i : ℕ) (old new : Group) (space now : Parts) (before after : Takings) (one : Reply) (why : Rejection)
    → judgement_by states limits old.tally request space before ≡ Err why → model_reply one ≡ Err why → new.plan.replies ≡ old.plan.replies ++ one ∷ [] → new.plan.entries ≡ old.plan.entries → new.plan.members ≡ old.plan.members
    → new.plan.frees ≡ old.plan.frees → new.tally ≡ old.tally → Moves [] space now before after → encoded_by states + old.tally.grown < bytes_bound → old.tally.last ≤ greatest_number
    → AddsMember states limits request i (member_by states limits old.tally request space before) old new space now before after
AddsMember-refused states limits request i old new space now before after one why judged told replies entries_are members frees tally moves room number =
    subst (λ (j : Judgement). AddsMember states limits request i (member_as old request j) old new space now before after) (sym judged)
    (record {
      replies = ap (map model_reply) replies ∙ map-append model_reply old.plan.replies (one ∷ []) ∙ (λ k. map model_reply old.plan.replies ++ told k ∷ []);
      more = [];
      entries = entries_are ∙ sym (append-nil old.plan.entries);
      keys = refl;
      are_entries = tt;
      members = members ∙ sym (append-nil old.plan.members);
      frees = frees ∙ sym (append-nil old.plan.frees);
      moves = moves;
      grown = ap (λ (t : Tally). t.grown) tally;
      last = ap (λ (t : Tally). t.last) tally;
      room = omega (arith, room, ap (λ (t : Tally). t.grown) tally);
      number = omega (arith, number, ap (λ (t : Tally). t.last) tally);
    })

-- it is committed
pub AddsMember-committed : (states : FinMap key_order State) (limits : Limits) (request : Request) (i : ℕ) (old new : Group) (space now : Parts) (before after : Takings) (done : Judged)
    → IsJudged states limits old.tally request space now before after done → limits.room < bytes_bound
    → new.plan.replies ≡ old.plan.replies ++ reply.Committed (old.tally.last + 1) ∷ []
    → new.plan.entries ≡ old.plan.entries ++ record { number = old.tally.last + 1; session = request.session; nth = request.nth; writes = done.writes } ∷ []
    → new.plan.members ≡ old.plan.members ++ i ∷ [] → new.plan.frees ≡ old.plan.frees ++ left_by (holdings_by states) (entries request.writes)
    → new.tally.grown ≡ old.tally.grown + done.growth → new.tally.last ≡ old.tally.last + 1
    → AddsMember states limits request i (member_by states limits old.tally request space before) old new space now before after
AddsMember-committed states limits request i old new space now before after done is room replies entries_are members frees grown last =
    let entry : Entry = record { number = old.tally.last + 1; session = request.session; nth = request.nth; writes = done.writes } in
    subst (λ (j : Judgement). AddsMember states limits request i (member_as old request j) old new space now before after) (sym is.judged)
    (record {
      replies = ap (map model_reply) replies ∙ map-append model_reply old.plan.replies (reply.Committed (old.tally.last + 1) ∷ []);
      more = entry ∷ [];
      entries = entries_are;
      keys = append-nil (write_keys done.writes) ∙ is.keys;
      are_entries = (record { number = refl; session = refl; nth = refl; writes = is.written }, tt);
      members = members;
      frees = frees ∙ ap (λ (bs : List Block). old.plan.frees ++ bs) (sym is.freed ∙ sym (append-nil (flat_map freed_blocks is.placed)));
      moves = subst (λ (bs : List Block). Moves bs space now before after) (sym (append-nil (flat_map new_blocks is.placed))) is.moves;
      grown = grown ∙ ap (λ (n : ℕ). old.tally.grown + n) is.growth;
      last = last;
      room = omega (arith, grown, is.room, room);
      number = omega (arith, last, is.number);
    })

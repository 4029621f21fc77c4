-- Groups: the requests at the front of a queue that are committed together.
use Rattle.std.specs.Prelude.{ℕ, ◌+◌, Bool, ◌||◌, bytes_eq, List, [], ◌∷◌, ◌++◌, map, Result, Ok, Err, if◌then◌else◌}
use Rattle.std.specs.List.{filter_map, flat_map, list_any}
use Rattle.std.specs.Prelude.{Option, Some, None}
use Rattle.store_model.specs.Judgement.{Asked, Judgement, Ledger, Rejection, Tally, growth_of, judge}
use Rattle.store_model.specs.Placing.{Placed, new_blocks}

-- whether a key is among others
abbrev pub is_among : List ℕ → List (List ℕ) → Bool
is_among key keys = list_any (λ other. bytes_eq key other) keys

-- whether a request reads or changes one of these keys
abbrev pub does_touch : Asked → List (List ℕ) → Bool
does_touch asked keys = list_any (λ read. is_among read.0 keys) asked.reads || list_any (λ need. is_among need.0 keys) asked.needs

-- a member of a group: its request, the number that it would have, and its judgement
pub record Member : Type 0 where
  pub asked : Asked
  pub number : ℕ
  pub judgement : Judgement

-- the tally of a group before its first member
abbrev pub no_tally : Ledger → Tally
no_tally ledger = record { taken = []; grown = 0; last = ledger.last; changed = [] }

-- the tally behind a member: a rejected one leaves it as it was
abbrev pub tally_after : Tally → Judgement → Tally
tally_after tally (Err why) = tally
tally_after tally (Ok placed) = record {
  taken = flat_map new_blocks placed ++ tally.taken;
  grown = tally.grown + growth_of placed;
  last = tally.last + 1;
  changed = map (λ one. one.key) placed ++ tally.changed;
}

-- a member behind those that came to this tally
abbrev pub member_of : Ledger → Tally → Asked → Member
member_of ledger tally asked = record { asked = asked; number = tally.last + 1; judgement = judge ledger tally asked }

-- The members at the front of a queue, behind those that came to this tally. They end before the first request that touches a key
-- which an earlier committing member changes.
abbrev pub members_from : Ledger → Tally → List Asked → List Member
members_from ledger tally [] = []
members_from ledger tally (asked ∷ queue) =
    if does_touch asked tally.changed then []
    else member_of ledger tally asked ∷ members_from ledger (tally_after tally (judge ledger tally asked)) queue

-- the group at the front of a queue
abbrev pub group : Ledger → List Asked → List Member
group ledger queue = members_from ledger (no_tally ledger) queue

-- the reply to a member: the number of its entry, or why it has none
abbrev pub Reply : Type 0
Reply = Result ℕ Rejection

abbrev pub judged : ℕ → Judgement → Reply
judged number (Ok placed) = Ok number
judged number (Err why) = Err why

abbrev pub reply_of : Member → Reply
reply_of member = judged member.number member.judgement

-- A member that is committed: its session, the number of its transaction there, the number of its entry, and its changes with their
-- blocks.
pub record Commit : Type 0 where
  pub session : ℕ
  pub nth : ℕ
  pub number : ℕ
  pub placed : List Placed

abbrev pub commit_by : Asked → ℕ → Judgement → Option Commit
commit_by asked number (Ok placed) = Some (record { session = asked.session; nth = asked.nth; number = number; placed = placed })
commit_by asked number (Err why) = None

-- the commit of a member, where it has one
abbrev pub commit_of : Member → Option Commit
commit_of member = commit_by member.asked member.number member.judgement

-- the commits of members, in their order
abbrev pub commits_of : List Member → List Commit
commits_of members = filter_map commit_of members

-- the blocks that commits take, one behind the other
abbrev pub taken_blocks : List Commit → List (ℕ × ℕ)
taken_blocks commits = flat_map (λ commit. flat_map new_blocks commit.placed) commits

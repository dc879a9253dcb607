-- A list of calls, made by threads over a lock.
use Rattle.std.proofs.lemmas.Grind.{common_steps}
use Rattle.ckpt_workers.proofs.Names.{Agrees, All, All-get_or, Answer, AreWorked, Call, Entry, Exchange, GivenBack, Hand, History, IsDeal, IsDealOf, IsTallied, IsTally, IsTeamwork, IsWorked, List}
use Rattle.ckpt_workers.proofs.Names.{Lock, MadeAll, None, Report, Share, [], answer_to, answers_by, answers_in, ap, append-nil, append_assoc, append_cancel_left, arith, calls_by, calls_in, cond}
use Rattle.ckpt_workers.proofs.Names.{dealt_to, entry, eq-eqb, get_or, get_or-map, later_in, length, length-append, length-map, length-newcomers, map, mod-lt, newcomer, newcomers, newcomers_are}
use Rattle.ckpt_workers.proofs.Names.{nil_from_length, prior, refl, seen, suc, sym, turns_of, zero, ℕ, ◌%◌, ◌++◌, ◌+◌, ◌/◌, ◌<◌, ◌∙◌, ◌∷◌, ◌≡◌}
use Rattle.ckpt_workers.proofs.DealLemmas.{IsRead, IsRead-all, IsRead-none, IsRead-push}
use Rattle.ckpt_workers.proofs.Dealing.{length-dealt_to, turns_of-within}
use Rattle.ckpt_workers.proofs.SeatLemmas.{after, answers_by-append, answers_by-none, calls_by-append}
use Rattle.ckpt_workers.proofs.TeamLemmas.{IsCounted, IsTally-push}
use Rattle.ckpt_locked.specs.Locks.{Made}
use Rattle.ckpt_workers.specs.declared.team.Made as team

-- the book of the hand's lock
abbrev book_of : Hand → History
book_of h = h.lock.base.book

-- what the hand has seen later: what it had seen, the entries of others, and the call
later_is : (old new : Hand) (call : Call) (answer : Answer) → (m : Made old call new answer) → new.later ≡ (old.later ++ m.between) ++ entry old.seat call ∷ []
later_is old new call answer m =
    append_cancel_left (prior old) new.later ((old.later ++ m.between) ++ entry old.seat call ∷ [])
    (ap (λ (l : Lock). l.base.book.entries ++ new.later) (sym m.same.0) ∙ m.seen_is ∙ rw (append_assoc (prior old) old.later m.between, append_assoc (prior old)))

one_call : (k : ℕ) (call : Call) → calls_by k (entry k call ∷ []) ≡ call ∷ []
one_call k call = ap (λ b. cond b (call ∷ []) []) (eq-eqb k k refl)

one_answer : (k : ℕ) (h : History) (call : Call) → answers_by k h (entry k call ∷ []) ≡ answer_to h call ∷ []
one_answer k h call = ap (λ b. cond b (answer_to h call ∷ []) []) (eq-eqb k k refl)

-- others enter nothing with the hand's seat
between_none : (old new : Hand) (call : Call) (answer : Answer) → (m : Made old call new answer) → calls_by old.seat old.later ≡ old.own → calls_by old.seat m.between ≡ []
between_none old new call answer m at =
    let k = old.seat in
    let found = old.later ++ m.between in
    let all : calls_by k (found ++ entry k call ∷ []) ≡ old.own ++ call ∷ [] = rw (← later_is old new call answer m, ← m.same.1) (m.all_own ∙ m.own_is) in
    let parts = calls_by-append k found (entry k call ∷ []) in
    let before = calls_by-append k old.later m.between in
    let ends = length-append (calls_by k found) (calls_by k (entry k call ∷ [])) in
    let sums = length-append (calls_by k old.later) (calls_by k m.between) in
    nil_from_length (calls_by k m.between)
    (omega (arith, ap length all, ap length parts, ap length before, ap length at, ends, sums, ap length (one_call k call), length-append old.own (call ∷ [])))

-- the answers to a seat's calls, by replay, are one more
answers_more : (old new : Hand) (call : Call) (answer : Answer) → Made old call new answer → calls_by old.seat old.later ≡ old.own
    → answers_by old.seat (book_of old) new.later ≡ answers_by old.seat (book_of old) old.later ++ answer ∷ []
answers_more old new call answer m at =
    let k = old.seat in
    let book = book_of old in
    let found = old.later ++ m.between in
    let here : after book found ≡ record book { entries = seen old ++ m.between } = ap (λ (es : List Entry). record book { entries = es }) (sym (append_assoc (prior old) old.later m.between)) in
    let said : answers_by k book found ≡ answers_by k book old.later =
    answers_by-append k book old.later m.between ∙ rw (answers_by-none k (after book old.later) m.between (between_none old new call answer m at), append-nil) in
    ap (answers_by k book) (later_is old new call answer m) ∙ answers_by-append k book found (entry k call ∷ [])
    ∙ rw (said, one_answer k (after book found) call) (ap (λ a. answers_by k book old.later ++ a ∷ []) (ap (λ (h : History). answer_to h call) here ∙ sym m.answer_is))

-- what follows for a hand's calls and answers from the entries that it has seen
pub record IsTold (old : Hand) (told : List Exchange) (new : Hand) : Type 0 where
  pub own : calls_by old.seat new.later ≡ new.own
  pub answers : answers_by old.seat (book_of old) new.later ≡ answers_by old.seat (book_of old) old.later ++ answers_in told

pub IsTold-all : (old : Hand) (told : List Exchange) (new : Hand) → calls_by old.seat old.later ≡ old.own → MadeAll old told new → IsTold old told new
IsTold-all old [] new at all = record {
  own = ap (λ (h : Hand). calls_by old.seat h.later) all ∙ at ∙ ap (λ (h : Hand). h.own) (sym all);
  answers = ap (λ (h : Hand). answers_by old.seat (book_of old) h.later) all ∙ sym (append-nil (answers_by old.seat (book_of old) old.later));
}
IsTold-all old (t ∷ rest) new at all =
    let next : Hand = all.0 in
    let m : Made old t.call next t.answer = all.1 in
    let told = IsTold-all next rest new m.all_own all.2 in
    let same : answers_by old.seat (book_of old) new.later ≡ answers_by old.seat (book_of old) next.later ++ answers_in rest = rw (m.same.0, m.same.1) at told.answers in
    record { own = rw (← m.same.1) told.own; answers = same ∙ rw (answers_more old next t.call t.answer m at, append_assoc) }

newcomers_at : (lock : Lock) (n k : ℕ) (d : Hand) → k < n → get_or (newcomers lock n) k d ≡ newcomer lock k
newcomers_at lock zero k d below = absurd (omega arith)
newcomers_at lock (suc n) k d below = grind (arith, common_steps, newcomers_at lock n k d, length-newcomers lock n)

-- a seat's calls and answers in the book that the lock returns
pub record IsSeats (lock : Lock) (book : History) (k : ℕ) (share : Share) (report : Report) : Type 0 where
  pub calls : calls_by k (later_in lock book) ≡ share.calls.items
  pub answers : answers_by k lock.base.book (later_in lock book) ≡ report.answers.items

IsSeats-worked : (lock : Lock) (book : History) (hands : List Hand) (k : ℕ) (share : Share) (report : Report) → share.pass ≡ newcomer lock k → IsWorked share report → GivenBack lock book hands
    → Agrees lock book report.pass → IsSeats lock book k share report
IsSeats-worked lock book hands k share report new w back agrees =
    let first : Hand = newcomer lock k in
    let last : Hand = report.pass in
    let later = later_in lock book in
    let made : MadeAll first w.told last = rw new at w.shift.made in
    let own : last.own ≡ calls_in w.told = rw new at w.shift.own in
    let told : IsTold first w.told last = IsTold-all first w.told last refl made in
    let rest : List Entry = agrees.0.0 in
    let all : book.entries ≡ (lock.base.book.entries ++ last.later) ++ rest = agrees.0.1 ∙ rw (w.shift.same.0, new) in
    let entries : book.entries ≡ lock.base.book.entries ++ later = ap (λ (h : History). h.entries) back.book_is in
    let split : later ≡ last.later ++ rest = append_cancel_left lock.base.book.entries later (last.later ++ rest) (sym entries ∙ all ∙ append_assoc lock.base.book.entries last.later rest) in
    let calls : calls_by k later ≡ last.own = ap (λ i. calls_by i later) (sym (w.shift.same.1 ∙ ap (λ (h : Hand). h.seat) new)) ∙ agrees.1 in
    let parts : calls_by k later ≡ calls_by k last.later ++ calls_by k rest = ap (calls_by k) split ∙ calls_by-append k last.later rest in
    let none : calls_by k rest ≡ [] =
    nil_from_length (calls_by k rest) (omega (arith, ap length calls, ap length parts, length-append (calls_by k last.later) (calls_by k rest), ap length told.own)) in
    let said = answers_by-none k (after lock.base.book last.later) rest none in
    record { calls = calls ∙ own ∙ w.calls_are; answers = rw (split, answers_by-append k lock.base.book last.later rest, said, append-nil) (told.answers ∙ w.answers_are) }

head_of : {X : Type 0} (xs : List X) → 0 < length xs → X
head_of [] some = absurd (omega arith)
head_of (x ∷ xs) some = x

module _ (lock : Lock) (shares : List Share) (reports : List Report) (book : History) (passes : map (λ (s : Share). s.pass) shares ≡ newcomers lock lock.base.seats)
    (as_many : length reports ≡ length shares) (worked : AreWorked shares reports) (back : GivenBack lock book (map (λ (r : Report). r.pass) reports)) where
  shared : length shares ≡ lock.base.seats
  shared = sym (length-map shares (λ (x : Share). x.pass)) ∙ ap length passes ∙ length-newcomers lock lock.base.seats

  -- what a seat's share and its report say
  IsSeats-at : (k : ℕ) → k < length shares → (s : Share) (r : Report) → IsSeats lock book k (get_or shares k s) (get_or reports k r)
  IsSeats-at k below s r =
      let d : Hand = newcomer lock k in
      let same = shared in
      let hands = map (λ (x : Report). x.pass) reports in
      let many : length hands ≡ length shares = length-map reports (λ (x : Report). x.pass) ∙ as_many in
      let mine : (get_or shares k s).pass ≡ d = sym (get_or-map (λ (x : Share). x.pass) shares k s d below) ∙ rw passes (newcomers_at lock lock.base.seats k d (omega arith)) in
      let agrees = rw (get_or-map (λ (x : Report). x.pass) reports k r d (omega arith)) at (All-get_or (Agrees lock book) hands k d (omega arith) back.agree) in
      IsSeats-worked lock book hands k (get_or shares k s) (get_or reports k r) mine (worked k s r below) back agrees

  pub IsTeamwork-threads : (calls : List Call) (made : team.Made) → IsDeal (map (λ (s : Share). s.calls.items) shares) calls → made.book ≡ book
      → IsTallied (map (λ (r : Report). r.answers.items) reports) (length calls) made → IsTeamwork lock.base.book calls lock.base.seats made
  IsTeamwork-threads calls made dealt is_book tallied =
      let same = shared in
      let hands : length (map (λ (s : Share). s.calls.items) shares) ≡ lock.base.seats = length-map shares (λ (s : Share). s.calls.items) ∙ shared in
      let told : length (map (λ (r : Report). r.answers.items) reports) ≡ lock.base.seats = length-map reports (λ (r : Report). r.answers.items) ∙ as_many ∙ shared in
      record {
        new = later_in lock book;
        book_is = is_book ∙ back.book_is;
        seats = back.seats;
        calls_are = λ k below. let s : Share = head_of shares (omega arith) in let r : Report = head_of reports (omega arith) in (IsSeats-at k (omega arith) s r).calls
            ∙ sym (get_or-map (λ (x : Share). x.calls.items) shares k s [] (omega arith)) ∙ dealt k (omega arith) ∙ ap (λ i. dealt_to i k calls) hands;
        answers = tallied.answers;
        one_each = tallied.as_many;
        answers_are = λ k below. let s : Share = head_of shares (omega arith) in let r : Report = head_of reports (omega arith) in (IsSeats-at k (omega arith) s r).answers
            ∙ sym (get_or-map (λ (x : Report). x.answers.items) reports k r [] (omega arith)) ∙ tallied.dealt k (omega arith) ∙ ap (λ i. dealt_to i k tallied.answers) told;
        accepted_is = tallied.tally.accepted;
        refused_is = tallied.tally.refused;
        completed_is = tallied.tally.completed;
      }

-- this many answers were read and counted
pub record IsCounting (hands : List (List Answer)) (book : History) (place : ℕ) (made : team.Made) : Type 0 where
  pub told : List Answer
  pub as_many : length told ≡ place
  pub read : IsRead hands told
  pub book_is : made.book ≡ book
  pub tally : IsTally made told

pub IsCounting-none : (hands : List (List Answer)) (book : History) (made : team.Made) → made ≡ record { book = book; accepted = 0; refused = 0; completed = None } → IsCounting hands book 0 made
IsCounting-none hands book made is =
    rw is (record { told = []; as_many = refl; read = IsRead-none hands; book_is = refl; tally = record { accepted = refl; refused = refl; completed = refl } })

module _ {X : Type 0} (items : X → List Answer) (xs : List X) (count place : ℕ) (x : X) (some : 0 < length xs) (of : IsDealOf (map items xs) count) (less : place < count)
    (hand : x ≡ get_or xs (place % length xs) x) where
  mine : get_or (map items xs) (place % length xs) [] ≡ items x
  mine = get_or-map items xs (place % length xs) x [] (mod-lt place some) ∙ ap items (sym hand)

  -- if more places than this one are dealt out, its hand has an answer for it
  pub turn_within : place / length xs < length (items x)
  turn_within =
      let n = length xs in
      let many : length (map items xs) ≡ n = length-map xs items in
      let long : length (get_or (map items xs) (place % n) []) ≡ turns_of n (place % n) count = of (place % n) (rw many (mod-lt place some)) ∙ ap (λ i. turns_of i (place % n) count) many in
      omega (arith, ap length mine, long, turns_of-within n place count some less)

  -- the next answer is that of the hand whose turn it is
  pub IsCounting-push : (book : History) (old new : team.Made) (answer d : Answer) → answer ≡ get_or (items x) (place / length xs) d
      → IsCounting (map items xs) book place old → new.book ≡ old.book → IsCounted old new answer → IsCounting (map items xs) book (place + 1) new
  IsCounting-push book old new answer d is was same counted =
      let hands = map items xs in
      let n = length xs in
      let many : length hands ≡ n = length-map xs items in
      let within : length was.told / length hands < length (get_or hands (length was.told % length hands) []) = rw (was.as_many, many, mine) turn_within in
      let said : answer ≡ get_or (get_or hands (length was.told % length hands) []) (length was.told / length hands) d = rw (was.as_many, many, mine) is in
      record {
        told = was.told ++ answer ∷ [];
        as_many = omega (arith, was.as_many, length-append was.told (answer ∷ []));
        read = IsRead-push hands was.told answer d (rw many some) within said was.read;
        book_is = same ∙ was.book_is;
        tally = IsTally-push old new was.told answer was.tally counted;
      }

pub IsCounting-all : (hands : List (List Answer)) (book : History) (count : ℕ) (made : team.Made) → IsDealOf hands count → IsCounting hands book count made → IsTallied hands count made
IsCounting-all hands book count made of h =
    record { answers = h.told; as_many = h.as_many; dealt = IsRead-all hands h.told count h.as_many of h.read; tally = h.tally }

-- the passes of new shares belong to the lock
pub shares_are : (lock : Lock) (n : ℕ) (shares : List Share) → map (λ (s : Share). s.pass) shares ≡ newcomers lock n → All (λ (s : Share). s.pass.lock ≡ lock) shares
shares_are lock n shares passes = λ k d below.
    let long : length shares ≡ length (newcomers lock n) = sym (length-map shares (λ (s : Share). s.pass)) ∙ ap length passes in
    ap (λ (h : Hand). h.lock) (sym (get_or-map (λ (s : Share). s.pass) shares k d d.pass below) ∙ ap (λ l. get_or l k d.pass) passes) ∙ newcomers_are lock n k d.pass (omega arith)

module _ (shares : List Share) (reports : List Report) (as_many : length reports ≡ length shares) (worked : AreWorked shares reports) where
  -- and so are those of their reports
  pub reports_are : (lock : Lock) (hands : List Hand) → All (λ (s : Share). s.pass.lock ≡ lock) shares → hands ≡ map (λ (r : Report). r.pass) reports → All (λ (h : Hand). h.lock ≡ lock) hands
  reports_are lock hands passes are = λ k d below.
      let long : length hands ≡ length reports = ap length are ∙ length-map reports (λ (r : Report). r.pass) in
      let s : Share = head_of shares (omega arith) in
      let r : Report = head_of reports (omega arith) in
      let small : k < length shares = omega arith in
      rw (are, get_or-map (λ (x : Report). x.pass) reports k r d (omega arith)) ((worked k s r small).shift.same.0 ∙ passes k s small)

  -- each seat has an answer for each of its calls
  pub IsDealOf-worked : (calls : List Call) (hands : List (List Answer)) (count : ℕ) → IsDeal (map (λ (s : Share). s.calls.items) shares) calls → hands ≡ map (λ (r : Report). r.answers.items) reports
      → count ≡ length calls → IsDealOf hands count
  IsDealOf-worked calls hands count dealt are counts = λ k below.
      let shared = map (λ (s : Share). s.calls.items) shares in
      let long : length hands ≡ length reports = ap length are ∙ length-map reports (λ (r : Report). r.answers.items) in
      let many : length shared ≡ length shares = length-map shares (λ (s : Share). s.calls.items) in
      let s : Share = head_of shares (omega arith) in
      let r : Report = head_of reports (omega arith) in
      let w : IsWorked (get_or shares k s) (get_or reports k r) = worked k s r (omega arith) in
      let told : get_or hands k [] ≡ answers_in w.told =
      ap (λ l. get_or l k []) are ∙ get_or-map (λ (x : Report). x.answers.items) reports k r [] (omega arith) ∙ sym w.answers_are in
      let mine : calls_in w.told ≡ dealt_to (length shared) k calls = w.calls_are ∙ sym (get_or-map (λ (x : Share). x.calls.items) shares k s [] (omega arith)) ∙ dealt k (omega arith) in
      ap length told ∙ length-map w.told (λ (t : Exchange). t.answer) ∙ sym (length-map w.told (λ (t : Exchange). t.call)) ∙ ap length mine
      ∙ length-dealt_to (length shared) k calls (omega arith) ∙ ap (turns_of (length shared) k) (sym counts) ∙ ap (λ i. turns_of i k count) (many ∙ sym as_many ∙ sym long)

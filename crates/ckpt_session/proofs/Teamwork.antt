-- The calls of an `all` line have the same outcome whether a team makes them or one caller makes them in order.
use Rattle.ckpt_session.proofs.Names.{◌≡◌, ℕ, ◌+◌, ◌%◌, ◌^◌, ◌<◌, ◌≤◌, length, Bool, true, false, not, cond, eqb, ltb, List, [], ◌∷◌, map, refl, sym, ap, subst, ◌∙◌, ⊎_elim, filter, count_by}
use Rattle.ckpt_session.proofs.Names.{Option, Some, None, enumerate_from, option_map, le-ltb, cond-false, Metadata, Call, Answer, SubtaskId, IsIn, Record, metadata_of, State, step, IsSound}
use Rattle.ckpt_session.proofs.Names.{pending_of, replay, answers, of_seat, Entry, History, calls_of, entered, answer_to, state_of_book, calls_by, answers_by, SeatsBelow, IsTeamwork, is_accepted}
use Rattle.ckpt_session.proofs.Names.{AllLine, FilesUsedUp, Refused, missing_subtasks, Obeyed, pending_metadata, acks_for, acknowledged, all_of, IsAsInOrder}
use Rattle.ckpt_session.proofs.BookLemmas.{state_of_book-more, state_of_book-entered}
use Rattle.ckpt_session.proofs.ShownLemmas.{its_record}
use Rattle.ckpt_model.proofs.Reordering.DealtCalls.{SeatsFrom, seated_answers, all_missing, ComesToTheSame, dealt_calls}
use Rattle.ckpt_workers.specs.declared.team.Made.{Made}
use Rattle.ckpt_session.specs.declared.outcome.Outcome.{Outcome}
use Rattle.ckpt_session.specs.AllLines.{outcome_of}

-- the calls of entries, each with its seat
abbrev seated_calls : List Entry → List (ℕ × Call)
seated_calls entries = map (λ e. (e.seat, e.call)) entries

seated_calls-calls : (es : List Entry) → map (λ (x : ℕ × Call). x.1) (seated_calls es) ≡ calls_of es
seated_calls-calls [] = refl
seated_calls-calls (e ∷ es) = ap (λ cs. e.call ∷ cs) (seated_calls-calls es)

seats_from : (n : ℕ) (es : List Entry) → SeatsBelow n es → SeatsFrom n (seated_calls es)
seats_from n [] h x there = absurd there
seats_from n (e ∷ es) h x there =
    let P : ℕ × Call → Type 0 = λ y. y.0 < n in let later : IsIn x (seated_calls es) → P x = λ k. seats_from n es h.1 x k in
    ⊎_elim (λ (same : x ≡ (e.seat, e.call)). subst P (sym same) h.0) later there

map-cond : {X Y : Type 0} (f : X → Y) (b : Bool) (x : X) (xs : List X) → map f (cond b (x ∷ xs) xs) ≡ cond b (f x ∷ map f xs) (map f xs)
map-cond f true x xs = refl
map-cond f false x xs = refl

-- the members of this seat or another, with one more at the start
of_seat-front : {X : Type 0} (seat : ℕ) (x : ℕ × X) (xs : List (ℕ × X)) (its : List X) → of_seat seat xs ≡ its → of_seat seat (x ∷ xs) ≡ cond (eqb x.0 seat) (x.1 ∷ its) its
of_seat-front {X} seat x xs its e =
    map-cond (λ (y : ℕ × X). y.1) (eqb x.0 seat) x (filter (λ (y : ℕ × X). eqb y.0 seat) xs) ∙ ap (λ (ys : List X). cond (eqb x.0 seat) (x.1 ∷ ys) ys) e

calls_by-seated : (seat : ℕ) (es : List Entry) → of_seat seat (seated_calls es) ≡ calls_by seat es
calls_by-seated seat [] = refl
calls_by-seated seat (e ∷ es) = of_seat-front seat (e.seat, e.call) (seated_calls es) (calls_by seat es) (calls_by-seated seat es)

answers_by-seated : (seat : ℕ) (h : History) (es : List Entry) → of_seat seat (seated_answers (state_of_book h) (seated_calls es)) ≡ answers_by seat h es
unfolding answer_to
answers_by-seated seat h [] = refl
answers_by-seated seat h (e ∷ es) =
    let rest : List (ℕ × Answer) = seated_answers (step (state_of_book h) e.call).0 (seated_calls es) in
    let same : of_seat seat rest ≡ answers_by seat (entered h e.seat e.call) es =
    ap (λ (m : State). of_seat seat (seated_answers m (seated_calls es))) (sym (state_of_book-entered h e.seat e.call)) ∙ answers_by-seated seat (entered h e.seat e.call) es in
    of_seat-front seat (e.seat, (step (state_of_book h) e.call).1) rest (answers_by seat (entered h e.seat e.call) es) same

-- the calls of the line, as the law has them
calls_of_record : (line : AllLine) (r : Record) → acks_for line (missing_subtasks (metadata_of r)) ≡ all_missing line.moment line.id line.first r
unfolding acks_for missing_subtasks
calls_of_record line r = refl

as_in_order : (h : History) (line : AllLine) (r : Record) (calls : List Call) (made : Made) → IsSound (state_of_book h) → pending_of (state_of_book h).records line.id ≡ Some r
    → calls ≡ all_missing line.moment line.id line.first r → 1 ≤ line.threads → IsTeamwork h calls line.threads made → IsAsInOrder (state_of_book h) calls made
as_in_order h line r calls made sound pending are some work =
    let m : State = state_of_book h in let its = its_record m line.id r sound pending in
    let order : List (ℕ × Call) = seated_calls work.new in
    let law : ComesToTheSame m (all_missing line.moment line.id line.first r) order work.answers =
    dealt_calls m line.moment line.id line.first line.threads r order work.answers sound its.0 its.1 some (seats_from line.threads work.new work.seats)
    (λ seat l. calls_by-seated seat work.new ∙ work.calls_are seat l ∙ ap (λ cs. map (λ (p : ℕ × Call). p.1) (filter (λ (p : ℕ × Call). eqb (p.0 % line.threads) seat) (enumerate_from 0 cs))) are)
    (λ seat l. answers_by-seated seat h work.new ∙ work.answers_are seat l) in
    let same : ComesToTheSame m calls order work.answers = subst (λ (cs : List Call). ComesToTheSame m cs order work.answers) (sym are) law in
    record {
      state = ap state_of_book work.book_is ∙ state_of_book-more h work.new ∙ ap (replay m) (sym (seated_calls-calls work.new)) ∙ sym same.state;
      accepted = work.accepted_is ∙ sym (same.as_often is_accepted);
      refused = work.refused_is ∙ sym (same.as_often (λ a. not (is_accepted a)));
      completed = work.completed_is ∙ sym same.completed;
    }

pub team_as_in_order : (h : History) (line : AllLine) (metadata : Metadata) (missing : List SubtaskId) (made : Made) → IsSound (state_of_book h)
    → pending_metadata (state_of_book h) line.id ≡ Some metadata → missing ≡ missing_subtasks metadata → 1 ≤ line.threads → IsTeamwork h (acks_for line missing) line.threads made
    → IsAsInOrder (state_of_book h) (acks_for line missing) made
team_as_in_order h line metadata missing made sound shown are some work = by_pending (pending_of (state_of_book h).records line.id) refl
  where
    by_pending : (o : Option Record) → pending_of (state_of_book h).records line.id ≡ o → IsAsInOrder (state_of_book h) (acks_for line missing) made
    by_pending None e = let no : ◌≡◌ {A = Option Metadata} None (Some metadata) = sym (ap (option_map metadata_of) e) ∙ shown in absurd cc
    by_pending (Some r) e =
        let it : ◌≡◌ {A = Option Metadata} (Some (metadata_of r)) (Some metadata) = sym (ap (option_map metadata_of) e) ∙ shown in
        let same : metadata_of r ≡ metadata = cc in
        as_in_order h line r (acks_for line missing) made sound e (ap (acks_for line) (are ∙ ap missing_subtasks (sym same)) ∙ calls_of_record line r) some work

-- what the line leaves and prints, from what the team made
pub acknowledged_is : (m after : State) (line : AllLine) (metadata : Metadata) (missing : List SubtaskId) (made : Made) (outcome : Outcome) → missing ≡ missing_subtasks metadata
    → line.first + length missing ≤ 2 ^ 64 → IsAsInOrder m (acks_for line missing) made → after ≡ state_of_book made.book
    → outcome ≡ outcome_of (state_of_book made.book) line made.accepted made.refused made.completed → ◌≡◌ {A = Obeyed} (after, outcome) (all_of m line (Some metadata))
unfolding all_of
acknowledged_is m after line metadata missing made outcome are few order state says =
    let calls : List Call = acks_for line missing in
    let same : List SubtaskId → Obeyed = λ missing. acknowledged m line (acks_for line missing) in
    let fits = le-ltb (2 ^ 64) (line.first + length (missing_subtasks metadata)) (subst (λ (xs : List SubtaskId). line.first + length xs ≤ 2 ^ 64) are few) in
    ap (λ (s : State). (s, outcome)) (state ∙ order.state)
    ∙ ap (λ (o : Outcome). (replay m calls, o))
    (says
    ∙ ap (λ (s : State). outcome_of s line made.accepted made.refused made.completed) order.state
    ∙ ap (λ (n : ℕ). outcome_of (replay m calls) line n made.refused made.completed) order.accepted
    ∙ ap (λ (n : ℕ). outcome_of (replay m calls) line (count_by is_accepted (answers m calls)) n made.completed) order.refused
    ∙ ap (outcome_of (replay m calls) line (count_by is_accepted (answers m calls)) (count_by (λ a. not (is_accepted a)) (answers m calls))) order.completed)
    ∙ ap same are
    ∙ sym (cond-false (ltb (2 ^ 64) (line.first + length (missing_subtasks metadata))) (m, Refused FilesUsedUp) (same (missing_subtasks metadata)) fits)

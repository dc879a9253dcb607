-- The work of a team, call by call.
use Rattle.ckpt_workers.proofs.Names.{Answer, Call, Entry, History, IsOneMore, IsTally, IsTeamwork, List, None, Option, Some, [], answer_to, ap, append-nil, append_assoc, arith, calls_by, calls_of}
use Rattle.ckpt_workers.proofs.Names.{cond, count_by_push, entered, is_accepted, length, length-append, map-append, mod-lt, not, one_if, option_or, refl, sym, ℕ, ◌%◌, ◌++◌, ◌+◌, ◌<◌, ◌∙◌, ◌∷◌, ◌≡◌}
use Rattle.ckpt_workers.proofs.Dealing.{dealt_to-push}
use Rattle.ckpt_workers.proofs.SeatLemmas.{after, after-append, after-nil, answers_by-append, calls_by-append}
use Rattle.ckpt_workers.proofs.TallyLemmas.{opposite}
use Rattle.ckpt_locked.proofs.SeatLists.{below-push}
use Rattle.ckpt_model.specs.Interleavings.{completed_by, first_completed}
use Rattle.ckpt_workers.specs.declared.team.Made.{Made}

-- new is old with one more answer
pub record IsCounted (old new : Made) (answer : Answer) : Type 0 where
  pub accepted : new.accepted ≡ old.accepted + one_if (is_accepted answer)
  pub refused : new.refused ≡ old.refused + cond (is_accepted answer) 0 1
  pub completed : new.completed ≡ option_or old.completed (completed_by answer)

option_or-none : {X : Type 0} (a : Option X) → option_or a None ≡ a
option_or-none None = refl
option_or-none (Some x) = refl

option_or-associates : {X : Type 0} (a b c : Option X) → option_or (option_or a b) c ≡ option_or a (option_or b c)
option_or-associates None b c = refl
option_or-associates (Some x) b c = refl

first_completed-push : (answers : List Answer) (a : Answer) → first_completed (answers ++ a ∷ []) ≡ option_or (first_completed answers) (completed_by a)
first_completed-push [] a = option_or-none (completed_by a)
first_completed-push (x ∷ xs) a =
    ap (option_or (completed_by x)) (first_completed-push xs a) ∙ sym (option_or-associates (completed_by x) (first_completed xs) (completed_by a))

-- one more answer at the end
pub IsTally-push : (old new : Made) (answers : List Answer) (a : Answer) → IsTally old answers → IsCounted old new a → IsTally new (answers ++ a ∷ [])
IsTally-push old new answers a tally counted = record {
  accepted = omega (arith, tally.accepted, counted.accepted, count_by_push is_accepted answers a);
  refused = omega (arith, tally.refused, counted.refused, count_by_push (λ x. not (is_accepted x)) answers a, opposite (is_accepted a));
  completed = counted.completed ∙ ap (λ o. option_or o (completed_by a)) tally.completed ∙ sym (first_completed-push answers a);
}

-- no call yet
pub IsTeamwork-none : (old : History) (threads : ℕ) (made : Made) → made.book ≡ old → IsTally made [] → IsTeamwork old [] threads made
IsTeamwork-none old threads made book tally = record {
  new = [];
  book_is = book ∙ sym (after-nil old);
  seats = tt;
  calls_are = λ seat below. refl;
  answers = [];
  one_each = refl;
  answers_are = λ seat below. refl;
  accepted_is = tally.accepted;
  refused_is = tally.refused;
  completed_is = tally.completed;
}

-- no call yet
pub in_order-none : (old : History) (made : Made) → made.book ≡ old → calls_of made.book.entries ≡ calls_of old.entries ++ []
in_order-none old made book = ap (λ (h : History). calls_of h.entries) book ∙ sym (append-nil (calls_of old.entries))

-- one more call, at the end
pub in_order-push : (old : History) (calls : List Call) (before made : Made) (call : Call) (seat : ℕ)
    → calls_of before.book.entries ≡ calls_of old.entries ++ calls → IsOneMore before seat call made
    → calls_of made.book.entries ≡ calls_of old.entries ++ (calls ++ call ∷ [])
in_order-push old calls before made call seat was more =
    ap (λ (h : History). calls_of h.entries) more.book ∙ map-append (λ (x : Entry). x.call) before.book.entries (record { seat = seat; call = call } ∷ []) ∙ rw (was, append_assoc)

-- one more call, entered with the seat of its place
pub IsTeamwork-push : (old : History) (calls : List Call) (threads : ℕ) (before made : Made) (call : Call) (seat : ℕ)
    → 0 < threads → seat ≡ length calls % threads → IsTeamwork old calls threads before → IsOneMore before seat call made → IsTeamwork old (calls ++ call ∷ []) threads made
IsTeamwork-push old calls threads before made call seat some at h more =
    let answer : Answer = answer_to before.book call in
    let e : Entry = record { seat = length calls % threads; call = call } in
    let here : before.book ≡ after old h.new = h.book_is in
    let pushed : IsTally made (h.answers ++ answer ∷ []) = IsTally-push before made h.answers answer (record { accepted = h.accepted_is; refused = h.refused_is; completed = h.completed_is })
    (record { accepted = more.accepted; refused = more.refused; completed = more.completed }) in
    let told_here : answer_to (after old h.new) call ≡ answer = ap (λ (g : History). answer_to g call) (sym here) in
    record {
      new = h.new ++ e ∷ [];
      book_is = more.book ∙ ap (λ k. entered before.book k call) at ∙ ap (λ (g : History). entered g (length calls % threads) call) here ∙ after-append old h.new (e ∷ []);
      seats = below-push threads h.new e h.seats (mod-lt (length calls) some);
      calls_are = λ k small. calls_by-append k h.new (e ∷ []) ∙ ap (λ l. l ++ calls_by k (e ∷ [])) (h.calls_are k small) ∙ sym (dealt_to-push threads k calls call);
      answers = h.answers ++ answer ∷ [];
      one_each = omega (arith, h.one_each, length-append h.answers (answer ∷ []), length-append calls (call ∷ []));
      answers_are = λ k small. answers_by-append k old h.new (e ∷ []) ∙ rw (h.answers_are k small, told_here, ← h.one_each) (sym (dealt_to-push threads k h.answers answer));
      accepted_is = pushed.accepted;
      refused_is = pushed.refused;
      completed_is = pushed.completed;
    }

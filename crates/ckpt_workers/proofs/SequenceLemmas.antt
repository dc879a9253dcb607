-- The calls of each pass stand in the book that the lock gives back, with their answers.
use Rattle.std.proofs.lemmas.Grind.{common_steps}
use Rattle.ckpt_ids.specs.Ordered.{IsIn}
use Rattle.ckpt_ids.proofs.OrderedLemmas.{IsIn-map}
use Rattle.ckpt_workers.proofs.Names.{Agrees, All, Entry, Exchange, GivenBack, Hand, History, List, Lock, MadeAll, [], answers_by, answers_in, ap, append-nil, append_assoc, append_cancel_left, arith}
use Rattle.ckpt_workers.proofs.Names.{calls_by, calls_in, later_in, length, length-append, map, newcomer, nil_from_length, refl, subst, sym, ℕ, ⊎_elim, ◌++◌, ◌∙◌, ◌∷◌, ◌≡◌}
use Rattle.std.proofs.lemmas.List.Elements.{All-head, All-tail}
use Rattle.ckpt_workers.specs.Sequences.{AreInOneSequence, IsRun, IsSequential, Run}
use Rattle.ckpt_workers.proofs.SeatLemmas.{after, answers_by-append, answers_by-none, calls_by-append}
use Rattle.ckpt_workers.proofs.ThreadLemmas.{IsTold, IsTold-all}

-- what the calls leave of a pass
record IsUsed (old : Hand) (told : List Exchange) (new : Hand) : Type 0 where
  lock : new.lock ≡ old.lock
  seat : new.seat ≡ old.seat
  own : new.own ≡ old.own ++ calls_in told

used : (old : Hand) (told : List Exchange) (new : Hand) → MadeAll old told new → IsUsed old told new
used old [] new all = record { lock = ap (λ (h : Hand). h.lock) all; seat = ap (λ (h : Hand). h.seat) all; own = ap (λ (h : Hand). h.own) all ∙ sym (append-nil old.own) }
used old (t ∷ rest) new all =
    let u : IsUsed all.0 rest new = used all.0 rest new all.2 in
    record {
      lock = u.lock ∙ (all.1).same.0;
      seat = u.seat ∙ (all.1).same.1;
      own = u.own ∙ ap (λ xs. xs ++ calls_in rest) (all.1).own_is ∙ append_assoc old.own (t.call ∷ []) (calls_in rest);
    }

-- one pass
in_sequence : (lock : Lock) (book : History) (hands : List Hand) (k : ℕ) (told : List Exchange) (last : Hand) → MadeAll (newcomer lock k) told last → GivenBack lock book hands → Agrees lock book last
    → (calls_by k (later_in lock book) ≡ calls_in told) × (answers_by k lock.base.book (later_in lock book) ≡ answers_in told)
in_sequence lock book hands k told last made back agrees =
    let first : Hand = newcomer lock k in
    let later : List Entry = later_in lock book in
    let u : IsUsed first told last = used first told last made in
    let is : IsTold first told last = IsTold-all first told last refl made in
    let rest : List Entry = agrees.0.0 in
    let all : book.entries ≡ (lock.base.book.entries ++ last.later) ++ rest = agrees.0.1 ∙ rw u.lock refl in
    let entries : book.entries ≡ lock.base.book.entries ++ later = ap (λ (h : History). h.entries) back.book_is in
    let split : later ≡ last.later ++ rest = append_cancel_left lock.base.book.entries later (last.later ++ rest) (sym entries ∙ all ∙ append_assoc lock.base.book.entries last.later rest) in
    let calls : calls_by k later ≡ last.own = ap (λ i. calls_by i later) (sym u.seat) ∙ agrees.1 in
    let parts : calls_by k later ≡ calls_by k last.later ++ calls_by k rest = ap (calls_by k) split ∙ calls_by-append k last.later rest in
    let none : calls_by k rest ≡ [] = nil_from_length (calls_by k rest) (omega (arith, ap length calls, ap length parts, length-append (calls_by k last.later) (calls_by k rest), ap length is.own)) in
    let said = answers_by-none k (after lock.base.book last.later) rest none in
    (calls ∙ u.own, rw (split, answers_by-append k lock.base.book last.later rest, said, append-nil) is.answers)

-- each of those that agree
agrees_of : (lock : Lock) (book : History) (hands : List Hand) (h : Hand) → All (Agrees lock book) hands → IsIn h hands → Agrees lock book h
agrees_of lock book [] h all there = absurd there
agrees_of lock book (x ∷ hands) h all there =
    ⊎_elim (λ (e : h ≡ x). subst (Agrees lock book) (sym e) (All-head (Agrees lock book) x hands all)) (λ (k : IsIn h hands). agrees_of lock book hands h (All-tail (Agrees lock book) x hands all) k) there

-- the law
pub one_sequence : (lock : Lock) (book : History) (runs : List Run) → AreInOneSequence lock book runs
one_sequence lock book runs are back =
    let hands : List Hand = map (λ r. r.pass) runs in
    let of : (r : Run) → IsIn r runs → (calls_by r.pass.seat (later_in lock book) ≡ calls_in r.told) × (answers_by r.pass.seat lock.base.book (later_in lock book) ≡ answers_in r.told) = λ (r : Run) (h : IsIn r runs).
    in_sequence lock book hands r.pass.seat r.told r.pass (are r h) back (agrees_of lock book hands r.pass back.agree (IsIn-map (λ (x : Run). x.pass) r runs h)) in
    record { goes_on = back.book_is; seats = back.seats; calls = λ r h. (of r h).0; answers = λ r h. (of r h).1 }

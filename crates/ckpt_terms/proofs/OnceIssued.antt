-- The calls that reach the coordinator never report a deleted file as new again.
use Rattle.ckpt_terms.proofs.Imports.{◌≡◌, ℕ, List, [], ◌∷◌, ◌++◌, refl, sym, subst, inl, ⊎_elim, ◌↔◌, Call, IsIn, IsIn-append_cases, IsUnused, State, Opening, opened, replay, AreCalls}
use Rattle.ckpt_terms.proofs.Imports.{NoneAgain, along, handed_by, registered_by, deleted_by, handed, FencedCall, Reserve, Forfeit, Make, Advance, Fenced, fenced, made, passed, FencedStepped}
use Rattle.ckpt_terms.proofs.Imports.{fenced_replay, core_calls, restart, CanFence, AreFencedCalls, IsFenced, IssuesOnce, IssuedOnce}
use Rattle.ckpt_terms.proofs.Stepping.{fenced_step_by, fresh_unspent, IsOpen, IsLater, made_later, made_keeps}
use Rattle.ckpt_terms.proofs.{Known.new_fresh, Known.deleted_known, Fences.opening_fenced, Classes.known_closed}

-- the calls that reach the coordinator are a history of it, which leaves it as the layer's core
pub history : (m : Fenced) (calls : List FencedCall) → AreFencedCalls calls → AreCalls (core_calls m calls) × ((fenced_replay m calls).core ≡ replay m.core (core_calls m calls))
history m [] a = (tt, refl)
history m (Reserve term count ∷ calls) a =
    let call : FencedCall = Reserve term count in
    let P : FencedStepped → Type 0 = λ x. AreCalls (passed call x.1 ++ core_calls x.0 calls) × ((fenced_replay x.0 calls).core ≡ replay m.core (passed call x.1 ++ core_calls x.0 calls)) in
    fenced_step_by m call P (λ _. history m calls a.1) (λ _. history (made m call).0 calls a.1)
history m (Forfeit term names ∷ calls) a =
    let call : FencedCall = Forfeit term names in
    let P : FencedStepped → Type 0 = λ x. AreCalls (passed call x.1 ++ core_calls x.0 calls) × ((fenced_replay x.0 calls).core ≡ replay m.core (passed call x.1 ++ core_calls x.0 calls)) in
    fenced_step_by m call P (λ _. history m calls a.1) (λ _. history (made m call).0 calls a.1)
history m (Make term its ∷ calls) a =
    let call : FencedCall = Make term its in
    let P : FencedStepped → Type 0 = λ x. AreCalls (passed call x.1 ++ core_calls x.0 calls) × ((fenced_replay x.0 calls).core ≡ replay m.core (passed call x.1 ++ core_calls x.0 calls)) in
    fenced_step_by m call P (λ _. history m calls a.1) (λ _. let h = history (made m call).0 calls a.1 in ((a.0, h.0), h.1))
history m (Advance now term first ∷ calls) a =
    let call : FencedCall = Advance now term first in
    let n : Fenced = (made m call).0 in
    let P : FencedStepped → Type 0 = λ x. AreCalls (passed call x.1 ++ core_calls x.0 calls) × ((fenced_replay x.0 calls).core ≡ replay m.core (passed call x.1 ++ core_calls x.0 calls)) in
    fenced_step_by m call P (λ _. history m calls a.1) (λ _. let h = history n calls a.1 in ((tt, h.0), h.1))

-- no name of these is open
abbrev AreClosed : Fenced → List ℕ → Type 0
AreClosed m gone = (f : ℕ) → IsIn f gone → IsOpen m f → ⊥

closed_later : (m n : Fenced) (gone : List ℕ) → IsLater m n → AreClosed m gone → AreClosed n gone
closed_later m n gone l c f h o = c f h (l.still_open f o)

closed_with_deleted : (m : Fenced) (call : Call) (gone : List ℕ) → IsFenced m → AreClosed m gone → AreClosed m (gone ++ deleted_by m.core call)
closed_with_deleted m call gone i c f h o =
    ⊎_elim
    (λ (k : IsIn f gone). c f k o)
    (λ (k : IsIn f (deleted_by m.core call)). known_closed m f i (deleted_known m.core call f i.core k) o)
    (IsIn-append_cases f gone (deleted_by m.core call) h)

pub none_again : (m : Fenced) (calls : List FencedCall) (gone : List ℕ) → AreFencedCalls calls → IsFenced m → AreClosed m gone → NoneAgain gone m.core (core_calls m calls)
none_again m [] gone a i c = tt
none_again m (Reserve term count ∷ calls) gone a i c =
    let call : FencedCall = Reserve term count in
    let P : FencedStepped → Type 0 = λ x. NoneAgain gone m.core (passed call x.1 ++ core_calls x.0 calls) in
    fenced_step_by m call P (λ _. none_again m calls gone a.1 i c)
    (λ e. none_again (made m call).0 calls gone a.1 (made_keeps m call a.0 e i) (closed_later m (made m call).0 gone (made_later m call i e) c))
none_again m (Forfeit term names ∷ calls) gone a i c =
    let call : FencedCall = Forfeit term names in
    let P : FencedStepped → Type 0 = λ x. NoneAgain gone m.core (passed call x.1 ++ core_calls x.0 calls) in
    fenced_step_by m call P (λ _. none_again m calls gone a.1 i c)
    (λ e. none_again (made m call).0 calls gone a.1 (made_keeps m call a.0 e i) (closed_later m (made m call).0 gone (made_later m call i e) c))
none_again m (Make term its ∷ calls) gone a i c =
    let call : FencedCall = Make term its in
    let n : Fenced = (made m call).0 in
    let P : FencedStepped → Type 0 = λ x. NoneAgain gone m.core (passed call x.1 ++ core_calls x.0 calls) in
    fenced_step_by m call P (λ _. none_again m calls gone a.1 i c) (λ e. (
      λ f h k. c f h (inl (fresh_unspent m term its f e (new_fresh m.core its f k))),
      none_again n calls (gone ++ deleted_by m.core its) a.1 (made_keeps m call a.0 e i)
          (closed_later m n (gone ++ deleted_by m.core its) (made_later m call i e) (closed_with_deleted m its gone i c)),
    ))
none_again m (Advance now term first ∷ calls) gone a i c =
    let call : FencedCall = Advance now term first in
    let n : Fenced = (made m call).0 in
    let deleted : List ℕ = gone ++ deleted_by m.core (restart now) in
    let P : FencedStepped → Type 0 = λ x. NoneAgain gone m.core (passed call x.1 ++ core_calls x.0 calls) in
    fenced_step_by m call P (λ _. none_again m calls gone a.1 i c) (λ e. (
      λ f h k. absurd (new_fresh m.core (restart now) f k),
      none_again n calls deleted a.1 (made_keeps m call a.0 e i) (closed_later m n deleted (made_later m call i e) (closed_with_deleted m (restart now) gone i c)),
    ))

-- the laws
pub issues_once : (m : Fenced) (calls : List FencedCall) → IsFenced m → AreFencedCalls calls → IssuesOnce m calls
issues_once m calls i a =
    let h = history m calls a in
    record { made = h.0; core = h.1; none_again = none_again m calls [] a i (λ f k. absurd k) }

pub issued_once : (o : Opening) (first : ℕ) (calls : List FencedCall) → CanFence o first → AreFencedCalls calls → IssuedOnce o first calls
issued_once o first calls c a =
    let m : Fenced = fenced o first in
    let its : List Call = core_calls m calls in
    let h : IssuesOnce m calls = issues_once m calls (opening_fenced o first c) a in
    let At : State → Type 0 = λ n. (f : ℕ) → IsIn f (along handed_by (opened o) its) ↔ (IsIn f (along registered_by (opened o) its) × IsUnused n f) in
    record { made = h.made; core = h.core; none_again = h.none_again; handed = subst At (sym h.core) (handed o its c.core h.made h.none_again) }

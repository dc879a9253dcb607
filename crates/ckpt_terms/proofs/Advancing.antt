-- From an accepted advance on, terms and names are above those that it was given.
use Rattle.ckpt_terms.proofs.Imports.{◌≡◌, ℕ, ◌<◌, ◌≤◌, max, Bool, true, false, ◌&&◌, List, [], ◌∷◌, refl, ap, arith, both_ways, Stepped, step, FencedCall, Reserve, Forfeit, Make, Advance}
use Rattle.ckpt_terms.proofs.Imports.{Fenced, FencedStepped, fenced_replay, fenced_step, has_ended, is_accepted, made, raised, restart, AreFencedCalls, IsFenced, fenced_answers, AdvancesAll}
use Rattle.ckpt_terms.proofs.Imports.{IsAbove, StaysAbove}
use Rattle.ckpt_terms.proofs.{Fences.step_fenced, Stepping.advance_by, Stepping.fenced_step_by, Stepping.made_later, Zombies.make_ended}

-- an answer and the state after it, above these floors
record IsStepAbove (top first : ℕ) (x : FencedStepped) : Type 0 where
  told : IsAbove top first x.1
  term : top < (x.0).term
  names : first ≤ (x.0).next_name

-- the next name only rises
next_name_rises : (m : Fenced) (call : FencedCall) → m.next_name ≤ ((made m call).0).next_name
next_name_rises m (Reserve term count) = omega arith
next_name_rises m (Forfeit term names) = omega arith
next_name_rises m (Make term call) = omega arith
next_name_rises m (Advance now term first) = advance_by m now term first (λ (n : Fenced). m.next_name ≤ n.next_name) (λ _. omega arith) (λ _. omega arith)

-- of a state above the floors, each call leaves one
told_above : (m : Fenced) (call : FencedCall) (term first : ℕ) → term < ((made m call).0).term → first ≤ m.next_name → IsAbove term first (made m call).1
told_above m (Reserve its count) term first above names = names
told_above m (Forfeit its gone) term first above names = tt
told_above m (Make its call) term first above names = above
told_above m (Advance now its least) term first above names = above

step_above : (m : Fenced) (call : FencedCall) (term first : ℕ) → IsFenced m → term < m.term → first ≤ m.next_name → IsStepAbove term first (fenced_step m call)
step_above m call term first i above names =
    fenced_step_by m call (λ (x : FencedStepped). IsStepAbove term first x)
    (λ why. record { told = tt; term = above; names = names })
    (λ e.
    let n : Fenced = (made m call).0 in
    let later : m.term ≤ n.term = (made_later m call i e).term in
    let rises : m.next_name ≤ n.next_name = next_name_rises m call in
    let its : term < n.term = omega arith in
    record { told = told_above m call term first its names; term = its; names = omega arith })

all_above : (m : Fenced) (calls : List FencedCall) (term first : ℕ) → IsFenced m → AreFencedCalls calls → term < m.term → first ≤ m.next_name
    → StaysAbove term first (fenced_answers m calls) (fenced_replay m calls)
all_above m [] term first i a above names = record { told = tt; term = above; names = names }
all_above m (call ∷ calls) term first i a above names =
    let s : IsStepAbove term first (fenced_step m call) = step_above m call term first i above names in
    let rest = all_above (fenced_step m call).0 calls term first (step_fenced m call a.0 i) a.1 s.term s.names in
    record { told = (s.told, rest.told); term = rest.term; names = rest.names }

-- and an accepted advance leaves one
advance_above : (m : Fenced) (now term first : ℕ) → has_ended (Advance now term first) (fenced_step m (Advance now term first)).1 ≡ true
    → IsStepAbove (max m.term term) (max m.next_name first) (fenced_step m (Advance now term first))
advance_above m now term first =
    let advance : FencedCall = Advance now term first in
    let s : Stepped = step m.core (restart now) in
    let k : Fenced = raised m term first in
    let Floors : Fenced → Type 0 = λ n. (max m.term term < n.term) × (max m.next_name first ≤ n.next_name) in
    fenced_step_by m advance (λ (x : FencedStepped). has_ended advance x.1 ≡ true → IsStepAbove (max m.term term) (max m.next_name first) x)
    (λ why h. absurd (both_ways false refl h))
    (λ e h.
    let floors : Floors (made m advance).0 = advance_by m now term first Floors
    (λ yes. ((make_ended k 0 (restart now) (ap (λ (b : Bool). b && true) yes)).0, omega arith))
    (λ no. absurd (both_ways (is_accepted s.1) no h)) in
    record { told = floors.0; term = floors.0; names = floors.1 })

-- the law
pub advances : (m : Fenced) (now term first : ℕ) (calls : List FencedCall) → IsFenced m → AreFencedCalls calls → AdvancesAll m now term first calls
advances m now term first calls i a accepted =
    let advance : FencedCall = Advance now term first in
    let n : Fenced = (fenced_step m advance).0 in
    let s = advance_above m now term first accepted in
    let rest = all_above n calls (max m.term term) (max m.next_name first) (step_fenced m advance tt i) a s.term s.names in
    record { told = (s.told, rest.told); term = rest.term; names = rest.names }

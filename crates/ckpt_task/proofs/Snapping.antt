-- A snapshot that a task took is its state before its cut.
use Rattle.ckpt_task.proofs.Names.{◌≡◌, ℕ, ◌<◌, Bool, true, false, List, ◌∷◌, ◌++◌, ◌∙◌, refl, sym, ap, subst, arith, if◌then◌else◌, Option, Some, None, inl, inr, [], both_ways, or_from}
use Rattle.ckpt_task.proofs.Names.{common_steps, SubtaskId, IsIn, same_subtask, Alignment, opened, Action, Reads, GivesUp, Sends, Ends, after, cut_by, has_cut, has_ended, is_number, replay}
use Rattle.ckpt_task.proofs.Names.{cuts_rise, Found, found, Emitted, Program, Turn, Offered, GivenUp, Drawn, Ended, actions, aligned, moves_in, sendings, state, told, By, History, Job}
use Rattle.ckpt_task.proofs.Names.{States, of, stopped, before_turns, aligned_is, has_ended_sendings, turns_all, turns_before, IsWorking, Snapped, has_ended_in, snapped_at, snapped_by}
use Rattle.ckpt_task.proofs.Names.{SnapsAtCut, cut_of, cut_stays}

-- a task that has ended takes no turn

abbrev pub Ends-last : List Turn → Type 0
Ends-last [] = Unit {0}
Ends-last (turn ∷ turns) = Ends-last turns × (has_ended_in turns ≡ false)

not_ended : (xs ys : List Action) → has_ended xs ≡ false → has_ended ys ≡ false → has_ended (xs ++ ys) ≡ false
not_ended [] ys e f = f
not_ended (Ends ∷ xs) ys e f = absurd (both_ways true e refl)
not_ended (Reads i item ∷ xs) ys e f = not_ended xs ys e f
not_ended (GivesUp id ∷ xs) ys e f = not_ended xs ys e f
not_ended (Sends o x ∷ xs) ys e f = not_ended xs ys e f

pub not_ended_in : (p : Program) (s : ℕ) (a : Alignment) (turns : List Turn) → has_ended_in turns ≡ false → has_ended (actions p s a turns) ≡ false
not_ended_in p s a [] e = grind (arith, common_steps)
not_ended_in p s a (Ended ∷ turns) e = grind (arith, common_steps, both_ways)
not_ended_in p s a (Offered i item ∷ turns) e = grind (arith, common_steps, has_ended_sendings, not_ended, not_ended_in p s a turns e)
not_ended_in p s a (GivenUp id ∷ turns) e = grind (arith, common_steps, not_ended, not_ended_in p s a turns e)
not_ended_in p s a (Drawn ∷ turns) e = grind (arith, common_steps, has_ended_sendings, not_ended, not_ended_in p s a turns e)

-- one that is cut later is cut, if the task has not ended

or_later : (b c : Bool) → c ≡ true → (if b then true else c) ≡ true
or_later true c e = refl
or_later false c e = e

pub cut_later : (n : ℕ) (a : Alignment) (xs ys : List Action) → has_ended xs ≡ false → has_cut n (replay a xs) ys ≡ true → has_cut n a (xs ++ ys) ≡ true
cut_later n a [] ys e f = f
cut_later n a (Ends ∷ xs) ys e f = absurd (both_ways true e refl)
cut_later n a (Reads i item ∷ xs) ys e f = let x : Action = Reads i item in or_later (is_number n (cut_by a x)) (has_cut n (after a x) (xs ++ ys)) (cut_later n (after a x) xs ys e f)
cut_later n a (GivesUp id ∷ xs) ys e f = let x : Action = GivesUp id in or_later (is_number n (cut_by a x)) (has_cut n (after a x) (xs ++ ys)) (cut_later n (after a x) xs ys e f)
cut_later n a (Sends o y ∷ xs) ys e f = cut_later n a xs ys e f

-- the turn that is the cut

pub is_cut_by : (n : ℕ) (o : Option ℕ) (rest : Bool) → o ≡ Some n → (if is_number n o then true else rest) ≡ true
is_cut_by n o rest e = subst (λ (k : Option ℕ). (if is_number n k then true else rest) ≡ true) (sym e) (or_first n rest)
  where
    or_first : (n : ℕ) (rest : Bool) → (if is_number n (Some n) then true else rest) ≡ true
    or_first n rest = grind (arith, common_steps)

abbrev Cuts : ℕ → Alignment → Turn → Type 0
Cuts n b turn = (x : Action) × (zs : List Action) × ((es : List Emitted) → told turn ++ sendings es ≡ x ∷ sendings es) × (cut_by b x ≡ Some n)

cuts : (n : ℕ) (b : Alignment) (turn : Turn) → cut_of b turn ≡ Some n → Cuts n b turn
cuts n b (Offered i item) e = (Reads i item, [], λ es. refl, e)
cuts n b (GivenUp id) e = (GivesUp id, [], λ es. refl, e)
cuts n b Drawn e = grind (arith, common_steps)
cuts n b Ended e = grind (arith, common_steps)

pub turn_cuts : (n : ℕ) (b : Alignment) (turn : Turn) (es : List Emitted) → cut_of b turn ≡ Some n → has_cut n b (told turn ++ sendings es) ≡ true
turn_cuts n b (Offered i item) es e = is_cut_by n (cut_by b (Reads i item)) (has_cut n (after b (Reads i item)) (sendings es)) e
turn_cuts n b (GivenUp id) es e = is_cut_by n (cut_by b (GivesUp id)) (has_cut n (after b (GivesUp id)) (sendings es)) e
turn_cuts n b Drawn es e = grind (arith, common_steps)
turn_cuts n b Ended es e = grind (arith, common_steps)

-- nobody cuts a record twice
pub not_cut_yet : (n inputs : ℕ) (xs : List Action) (b : Alignment) (turn : Turn) → replay (opened inputs) xs ≡ b → cut_of b turn ≡ Some n → has_cut n (opened inputs) xs ≡ false
not_cut_yet n inputs xs b turn at e = by_test (has_cut n (opened inputs) xs) refl
  where
    twice : Found n (opened inputs) xs → Cuts n b turn → ⊥
    twice f k =
        let now : cut_by (replay (opened inputs) (f.0 ++ f.1 ∷ f.2)) k.0 ≡ Some n = ap (λ (l : List Action). cut_by (replay (opened inputs) l) k.0) (sym f.3) ∙ ap (λ (a : Alignment). cut_by a k.0) at ∙ k.3 in
        let less : n < n = cuts_rise inputs f.0 f.1 f.2 k.0 n n f.4 now in
        grind (arith, common_steps)

    by_test : (b : Bool) → has_cut n (opened inputs) xs ≡ b → b ≡ false
    by_test false is = refl
    by_test true is = absurd (twice (found n (opened inputs) xs is) (cuts n b turn e))

-- turns before a cut

stopped_by : (n : ℕ) (p : Program) (s : ℕ) (a : Alignment) (turn : Turn) (turns : List Turn) → has_cut n a (actions p s a (turn ∷ turns)) ≡ true → turns_before n p s a (turn ∷ turns) ≡ turns_before n p s a turns
stopped_by n p s a turn turns e = grind (arith, common_steps)

-- what the law says, of the turns of a task
abbrev pub IsSnap : Program → ℕ → Alignment → List Turn → Snapped → Type 0
IsSnap p s a turns one = (has_cut one.id a (actions p s a turns) ≡ true) × (one.state ≡ state p s (moves_in a (turns_before one.id p s a turns)))

pub snap_stays : (p : Program) (s : ℕ) (a : Alignment) (turn : Turn) (turns : List Turn) (one : Snapped) → IsSnap p s a turns one → IsSnap p s a (turn ∷ turns) one
snap_stays p s a turn turns one k = grind (arith, common_steps, cut_stays, stopped_by)

snap_now : (p : Program) (s inputs n : ℕ) (turn : Turn) (turns : List Turn) → has_ended_in turns ≡ false → cut_of (aligned (opened inputs) turns) turn ≡ Some n
    → IsSnap p s (opened inputs) (turn ∷ turns) (record { id = n; state = state p s (moves_in (opened inputs) turns) })
snap_now p s inputs n turn turns going e = grind (arith, common_steps, aligned_is, cut_later, not_cut_yet, not_ended_in, or_from, stopped, stopped_by, turn_cuts, turns_all)

snap_by : (p : Program) (s inputs : ℕ) (turn : Turn) (turns : List Turn) (one : Snapped) (o : Option ℕ) → has_ended_in turns ≡ false → cut_of (aligned (opened inputs) turns) turn ≡ o
    → IsIn one (snapped_at o (state p s (moves_in (opened inputs) turns)) ++ snapped_by p s (opened inputs) turns)
    → (IsIn one (snapped_by p s (opened inputs) turns) → IsSnap p s (opened inputs) turns one)
    → IsSnap p s (opened inputs) (turn ∷ turns) one
snap_by p s inputs turn turns one None going e has before = grind (arith, common_steps, snap_stays)
snap_by p s inputs turn turns one (Some n) going e (inl is) before = grind (arith, common_steps, snap_now)
snap_by p s inputs turn turns one (Some n) going e (inr has) before = grind (arith, common_steps, snap_stays)

pub snaps : (p : Program) (s inputs : ℕ) (turns : List Turn) (one : Snapped) → Ends-last turns → IsIn one (snapped_by p s (opened inputs) turns) → IsSnap p s (opened inputs) turns one
snaps p s inputs [] one last has = absurd has
snaps p s inputs (turn ∷ turns) one last has = snap_by p s inputs turn turns one (cut_of (aligned (opened inputs) turns) turn) last.1 refl has (snaps p s inputs turns one last.0)

-- the turns of a task in a job

ends_last_by : (e : By Turn) (h : History) (t : SubtaskId) (b : Bool) → same_subtask e.task t ≡ b → has_ended_in (of e.task h) ≡ false → Ends-last (of t h) → Ends-last (of t (e ∷ h))
ends_last_by e h t true same going last = grind (arith, common_steps)
ends_last_by e h t false other going last = grind (arith, common_steps)

ends_last : (job : Job) (from : States) (h : History) (t : SubtaskId) → IsWorking job from h → Ends-last (of t h)
ends_last job from [] t works = tt
ends_last job from (e ∷ h) t works = ends_last_by e h t (same_subtask e.task t) refl works.2 (ends_last job from h t works.0)

pub snaps_at_cut : (job : Job) (from : States) (h : History) (t : SubtaskId) (one : Snapped) → SnapsAtCut job from h t one
snaps_at_cut job from h t one works has = grind (arith, common_steps, before_turns, ends_last, snaps)

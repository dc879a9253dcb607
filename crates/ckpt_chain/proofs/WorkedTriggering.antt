-- The worked loops meet the premises of `has_no_earlier`.
use Rattle.ckpt_chain.proofs.Names.{◌≡◌, ℕ, List, [], ◌∷◌, sym, subst, inl, inr, refl, ◌⊎◌, None, SubtaskId, IsIn, Barrier, Element, AreEvents, events_replay, By, IsFed, Drawn, Offered}
use Rattle.ckpt_chain.proofs.Names.{adder, job, line, source, history_of, under, again, failed, by, AreTriggered, OrdersAreOf, asked, numbers_in, begin, first, numbers, second}
use Rattle.ckpt_once.specs.Programs.{Turn}
use Rattle.ckpt_task.proofs.WorkedLooping as loops

-- an order of these, if it is one
abbrev IsOrder : List ℕ → By Turn → Type 0
IsOrder given event = (i n : ℕ) → event.what ≡ Offered i (Barrier n) → IsFed job event.task i ⊎ IsIn n given

fed : (given : List ℕ) → IsOrder given (by adder (Offered 0 (Barrier 1)))
fed given i n e = let same : 0 ≡ i = cc in inl (line, inl refl, refl, same)

no_barrier : (given : List ℕ) → IsOrder given (by adder (Offered 0 (Element 100)))
no_barrier given i n e = absurd (differ e)
  where
    differ : Offered 0 (Element 100) ≡ Offered i (Barrier n) → ⊥
    differ k = cc

ordered : IsOrder (1 ∷ []) (by source (Offered 0 (Barrier 1)))
ordered i n e = let same : 1 ≡ n = cc in inr (inl (sym same))

drawn : (given : List ℕ) → IsOrder given (by source Drawn)
drawn given i n e = absurd (differ e)
  where
    differ : Drawn ≡ Offered i (Barrier n) → ⊥
    differ k = cc

in_failed : (event : By Turn) → IsIn event (history_of failed) → IsOrder (1 ∷ []) event
in_failed event (inl e) = subst (λ (x : By Turn). IsOrder (1 ∷ []) x) (sym e) (fed (1 ∷ []))
in_failed event (inr (inl e)) = subst (λ (x : By Turn). IsOrder (1 ∷ []) x) (sym e) (no_barrier (1 ∷ []))
in_failed event (inr (inr (inl e))) = subst (λ (x : By Turn). IsOrder (1 ∷ []) x) (sym e) ordered
in_failed event (inr (inr (inr (inl e)))) = subst (λ (x : By Turn). IsOrder (1 ∷ []) x) (sym e) (drawn (1 ∷ []))
in_failed event (inr (inr (inr (inr none)))) = absurd none

orders : OrdersAreOf (numbers_in begin first.meanwhile) job (history_of failed)
orders = subst (λ (given : List ℕ). OrdersAreOf given job (history_of failed)) (sym numbers) (λ event i n has e. in_failed event has i n e)

no_orders : (given : List ℕ) → OrdersAreOf given job (history_of again)
no_orders given event i n (inl e) is = subst (λ (x : By Turn). IsOrder given x) (sym e) (drawn given) i n is
no_orders given event i n (inr none) is = absurd none

-- what was saved before

none_first : (t : SubtaskId) (n : ℕ) → IsIn t job.tasks → under n (failed.looped t).first.saved ≡ None
none_first t n has = loops.at_tasks (λ s. under n (failed.looped s).first.saved ≡ None) refl refl t has

abbrev Keeps : ℕ → SubtaskId → Type 0
Keeps n t = under n (failed.looped t).last.saved ≡ None → under n (again.looped t).first.saved ≡ None

same_saved : (t : SubtaskId) (n : ℕ) → IsIn t job.tasks → Keeps n t
same_saved t n has = loops.at_tasks (λ s. Keeps n s) (λ none. none) (λ none. none) t has

pub are_triggered : AreTriggered begin job (second ∷ first ∷ [])
are_triggered = (
  (tt, loops.failed_looping, orders, λ t n has none. none_first t n has),
  loops.again_looping,
  no_orders (numbers_in (events_replay begin (asked (first ∷ []))) second.meanwhile),
  λ t n has none. same_saved t n has none,
)

pub are_events : AreEvents (asked (second ∷ first ∷ []))
are_events = (tt, (tt, (tt, tt)))

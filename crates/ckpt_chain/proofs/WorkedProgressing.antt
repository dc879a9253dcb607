-- The worked examples meet the premises of progress, and of the law of advances.
use Rattle.ckpt_chain.proofs.Names.{◌≡◌, ℕ, false, true, [], ◌∷◌, refl, sym, ap, subst, arith, inl, inr, common_steps, Some, Tick, SubtaskId, IsIn, is_known, step_computes, pending_of}
use Rattle.ckpt_chain.proofs.Names.{ShareNone, AreAllMissing, HasFiles, IsLacking, TimedPart, IsSound, replay_is_sound, adder, source, opening, Make, Reserve, fenced, fenced_step, has_ended}
use Rattle.ckpt_chain.proofs.Names.{CanFence, IsFenced, HasNames, opening_fenced, replay_fenced, advance, holds, lacking, of_adder, of_source, parts, waits}
use Rattle.ckpt_model.specs.Progress.{IsWithin}
use Rattle.ckpt_task.proofs.WorkedLooping as loops

-- without names

pub is_sound : IsSound waits
is_sound = replay_is_sound opening (Tick 1000 ∷ []) loops.can_open (tt, tt)

pub is_pending : pending_of waits.records 1 ≡ Some lacking
unfolding step_computes
is_pending = refl

-- what holds of both parts
of_both : (P : TimedPart → Type 0) → P of_adder → P of_source → (t : TimedPart) → IsIn t parts → P t
of_both P first second t (inl e) = subst P (sym e) first
of_both P first second t (inr (inl e)) = subst P (sym e) second
of_both P first second t (inr (inr none)) = absurd none

lacks_both : (t : TimedPart) → IsIn t parts → IsLacking lacking t.part
lacks_both = of_both (λ t. IsLacking lacking t.part) (record { of_record = refl; lacks = refl }) (record { of_record = refl; lacks = refl })

differ : (a b : ℕ) → a ≡ b → a ≡ 1 → b ≡ 0 → ⊥
differ a b e first second = absurd (omega arith)

pub are_two : adder ≡ source → ⊥
are_two e = differ adder.vertex source.vertex (ap (λ (s : SubtaskId). s.vertex) e) refl refl

share_none : ShareNone (6 ∷ []) (5 ∷ [])
share_none f (inl e) (inl k) = absurd (omega arith)
share_none f (inl e) (inr none) = absurd none
share_none f (inr none) k = absurd none

abbrev IsApart : TimedPart → Type 0
IsApart u = (adder ≡ u.part.subtask → ⊥) × ShareNone (6 ∷ []) u.part.fresh

apart : (u : TimedPart) → IsIn u (of_source ∷ []) → IsApart u
apart u (inl e) = subst (λ (k : TimedPart). IsApart k) (sym e) (are_two, share_none)
apart u (inr none) = absurd none

pub are_missing : AreAllMissing lacking parts
are_missing = record { all = refl; each = lacks_both; apart = (apart, (λ u none. absurd none, tt)) }

are_within : (t : TimedPart) → IsIn t parts → IsWithin t
are_within = of_both IsWithin (record { moment = grind (arith, common_steps); few = grind (arith, common_steps); once = refl })
    (record { moment = grind (arith, common_steps); few = grind (arith, common_steps); once = refl })

new_six : (f : ℕ) → IsIn f (6 ∷ []) → is_known waits f ≡ false
unfolding step_computes
new_six f (inl e) = subst (λ (k : ℕ). is_known waits k ≡ false) (sym e) refl
new_six f (inr none) = absurd none

new_five : (f : ℕ) → IsIn f (5 ∷ []) → is_known waits f ≡ false
unfolding step_computes
new_five f (inl e) = subst (λ (k : ℕ). is_known waits k ≡ false) (sym e) refl
new_five f (inr none) = absurd none

have_files : (t : TimedPart) → IsIn t parts → HasFiles waits t.part
have_files = of_both (λ t. HasFiles waits t.part) (record { new = new_six; used = λ f none. absurd none }) (record { new = new_five; used = λ f none. absurd none })

pub each : (t : TimedPart) → IsIn t parts → IsWithin t × HasFiles waits t.part
each t has = (are_within t has, have_files t has)

-- with names

pub can_fence : CanFence opening 5
can_fence = record { core = loops.can_open; first_from = omega arith; first_to = grind (arith, common_steps) }

pub is_fenced : IsFenced holds
is_fenced = replay_fenced (fenced opening 5) (Make 0 (Tick 1000) ∷ Reserve 1 3 ∷ []) (tt, (tt, tt)) (opening_fenced opening 5 can_fence)

pub waits_too : pending_of holds.core.records 1 ≡ Some lacking
unfolding fenced_step step_computes
waits_too = refl

held_six : (f : ℕ) → IsIn f (6 ∷ []) → IsIn f holds.unspent
unfolding fenced_step step_computes
held_six f (inl e) = inr (inl e)
held_six f (inr none) = absurd none

held_five : (f : ℕ) → IsIn f (5 ∷ []) → IsIn f holds.unspent
unfolding fenced_step step_computes
held_five f (inl e) = inl e
held_five f (inr none) = absurd none

have_names : (t : TimedPart) → IsIn t parts → HasNames holds t.part
have_names = of_both (λ t. HasNames holds t.part) (record { held = held_six; used = λ f none. absurd none }) (record { held = held_five; used = λ f none. absurd none })

pub each_named : (t : TimedPart) → IsIn t parts → IsWithin t × HasNames holds t.part
each_named t has = (are_within t has, have_names t has)

pub is_accepted : has_ended advance (fenced_step holds advance).1 ≡ true
unfolding fenced_step step_computes
is_accepted = refl

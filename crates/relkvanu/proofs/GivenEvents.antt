-- What fields and lists ask for is an event: a call that can be made, or a first name.
use Rattle.relkvanu.proofs.Imports.{◌≡◌, ℕ, zero, suc, Bool, true, ◌&&◌, eqb, List, [], ◌∷◌, length, sum, subst, ⊤, get_or, nat_le, ◌==◌, Option, Some, None, Result, Ok, Err, if◌then◌else◌}
use Rattle.relkvanu.proofs.Imports.{list_all, and_parts, cond_both, leb-true, AllPass-from_list_all, Configuration, IsWithinLimits, configured, is_within_limits, ascending, IsShape, is_shape}
use Rattle.relkvanu.proofs.Imports.{Call, LEAST_INTERVAL, LONGEST_DURATION, MOST_AT_ONCE, MOST_RETAINED, MOST_SUBTASKS, MOST_TOLERABLE, MOST_VERTICES, Event, IsEvent, Named, Plain, IsCall}
use Rattle.relkvanu.proofs.Imports.{is_free, Reserve, Forfeit, Make, Advance, restore_of, asked_event, bad_shape, bad_kind, call_given, configuration_in, configuring, given, kinds, restore_in}
use Rattle.relkvanu.proofs.Imports.{with_term, Asked, CallFields}
use Rattle.relkvanu.specs.declared.asked.Asked.TheVariants as ask

-- ---- tests that pass say what they test

shape_is : (shape : List ℕ) → is_shape shape ≡ true → IsShape shape
shape_is shape is =
    let from : Bool = nat_le 1 (length shape) in
    let to : Bool = nat_le (length shape) MOST_VERTICES in
    let each : Bool = list_all (nat_le 1) shape in
    let size : Bool = nat_le (sum shape) MOST_SUBTASKS in
    let three = and_parts (from && to && each) size is in
    let two = and_parts (from && to) each three.0 in
    let one = and_parts from to two.0 in
    record {
      vertices_from = leb-true 1 (length shape) one.0;
      vertices_to = leb-true (length shape) MOST_VERTICES one.1;
      each = λ k d within. leb-true 1 _ (AllPass-from_list_all (nat_le 1) shape two.1 k d within);
      size_to = leb-true (sum shape) MOST_SUBTASKS three.1;
    }

-- ten tests, each of which passes
limits_are : (c : Configuration) → is_within_limits c ≡ true → IsWithinLimits c
limits_are c is =
    let b1 : Bool = nat_le LEAST_INTERVAL c.interval in
    let b2 : Bool = b1 && nat_le c.interval LONGEST_DURATION in
    let b3 : Bool = b2 && nat_le c.pause LONGEST_DURATION in
    let b4 : Bool = b3 && nat_le 1 c.at_once in
    let b5 : Bool = b4 && nat_le c.at_once MOST_AT_ONCE in
    let b6 : Bool = b5 && nat_le 1 c.timeout in
    let b7 : Bool = b6 && nat_le c.timeout LONGEST_DURATION in
    let b8 : Bool = b7 && nat_le c.tolerable MOST_TOLERABLE in
    let b9 : Bool = b8 && nat_le 1 c.retained in
    let p10 = and_parts b9 (nat_le c.retained MOST_RETAINED) is in
    let p9 = and_parts b8 (nat_le 1 c.retained) p10.0 in
    let p8 = and_parts b7 (nat_le c.tolerable MOST_TOLERABLE) p9.0 in
    let p7 = and_parts b6 (nat_le c.timeout LONGEST_DURATION) p8.0 in
    let p6 = and_parts b5 (nat_le 1 c.timeout) p7.0 in
    let p5 = and_parts b4 (nat_le c.at_once MOST_AT_ONCE) p6.0 in
    let p4 = and_parts b3 (nat_le 1 c.at_once) p5.0 in
    let p3 = and_parts b2 (nat_le c.pause LONGEST_DURATION) p4.0 in
    let p2 = and_parts b1 (nat_le c.interval LONGEST_DURATION) p3.0 in
    record {
      interval_from = leb-true LEAST_INTERVAL c.interval p2.0;
      interval_to = leb-true c.interval LONGEST_DURATION p2.1;
      pause_to = leb-true c.pause LONGEST_DURATION p3.1;
      at_once_from = leb-true 1 c.at_once p4.1;
      at_once_to = leb-true c.at_once MOST_AT_ONCE p5.1;
      timeout_from = leb-true 1 c.timeout p6.1;
      timeout_to = leb-true c.timeout LONGEST_DURATION p7.1;
      tolerable_to = leb-true c.tolerable MOST_TOLERABLE p8.1;
      retained_from = leb-true 1 c.retained p9.1;
      retained_to = leb-true c.retained MOST_RETAINED p10.1;
    }

-- ---- calls

-- a call that can be made, or none
abbrev CanBe : Result Call ℕ → Type 0
CanBe (Ok call) = IsCall call
CanBe (Err what) = ⊤

abbrev CanEach : List (Result Call ℕ) → Type 0
CanEach [] = ⊤
CanEach (r ∷ rs) = CanBe r × CanEach rs

can_at : (rs : List (Result Call ℕ)) (i : ℕ) (other : Result Call ℕ) → CanEach rs → CanBe other → CanBe (get_or rs i other)
can_at [] i other each can = can
can_at (r ∷ rs) zero other each can = each.0
can_at (r ∷ rs) (suc i) other each can = can_at rs i other each.1 can

can_restore : (c : CallFields) (shape : List ℕ) → CanBe (restore_in c shape)
can_restore c [] = tt
can_restore c (p ∷ ps) = cond_both (is_shape (p ∷ ps)) (Ok (restore_of c.now c.number (p ∷ ps))) (Err bad_shape) (λ (r : Result Call ℕ). CanBe r) (λ is. shape_is (p ∷ ps) is) (λ _. tt)

can_configure : (now : ℕ) (list : List ℕ) → CanBe (configuring now (configuration_in list))
can_configure now [] = tt
can_configure now (a ∷ []) = tt
can_configure now (a ∷ b ∷ []) = tt
can_configure now (a ∷ b ∷ c ∷ []) = tt
can_configure now (a ∷ b ∷ c ∷ d ∷ []) = tt
can_configure now (a ∷ b ∷ c ∷ d ∷ e ∷ []) = tt
can_configure now (a ∷ b ∷ c ∷ d ∷ e ∷ f ∷ []) = tt
can_configure now (interval ∷ pause ∷ at_once ∷ timeout ∷ tolerable ∷ retained ∷ keep ∷ []) =
    let config : Configuration = configured interval pause at_once timeout tolerable retained (keep == 1) in
    cond_both (nat_le keep 1 && is_within_limits config) (Some config) None (λ (o : Option Configuration). CanBe (configuring now o))
    (λ is. limits_are config (and_parts (nat_le keep 1) (is_within_limits config) is).1)
    (λ _. tt)
can_configure now (a ∷ b ∷ c ∷ d ∷ e ∷ f ∷ g ∷ h ∷ list) = tt

can_each : (c : CallFields) (first second : List ℕ) → CanEach (kinds c first second)
can_each c first second =
    (tt, (tt, (tt, (tt, (tt, (tt, (can_restore c first, (tt, (tt, (tt, (tt, (tt, (tt, (tt, (tt, (tt, (tt, (can_configure c.now first, tt))))))))))))))))))

can_be : (c : CallFields) (first second : List ℕ) → CanBe (call_given c first second)
unfolding call_given
can_be c first second = can_at (kinds c first second) c.kind (Err bad_kind) (can_each c first second) tt

-- ---- what is asked for

abbrev AsksWell : Result Asked ℕ → Type 0
AsksWell (Ok asked) = IsEvent (asked_event asked)
AsksWell (Err what) = ⊤

in_a_term : (term : ℕ) (r : Result Call ℕ) → CanBe r → AsksWell (with_term term r)
in_a_term term (Err what) can = tt
in_a_term term (Ok call) can =
    cond_both (eqb term 0) (Plain call) (if is_free call then Plain call else Named (Make term call)) (λ (e : Event). IsEvent e)
    (λ _. can)
    (λ _. cond_both (is_free call) (Plain call) (Named (Make term call)) (λ (e : Event). IsEvent e) (λ _. can) (λ _. can))

given_well : (c : CallFields) (first second : List ℕ) → AsksWell (given c first second)
unfolding given
given_well c first second =
    let made : Result Asked ℕ = with_term c.term (call_given c first second) in
    let advance : Result Asked ℕ = if eqb c.kind 18 then Ok (ask.Call (Advance c.now c.term c.number)) else made in
    let forfeit : Result Asked ℕ = if eqb c.kind 15 then Ok (ask.Call (Forfeit c.term (ascending first))) else advance in
    let reserve : Result Asked ℕ = if eqb c.kind 14 then Ok (ask.Call (Reserve c.term c.number)) else forfeit in
    cond_both (eqb c.kind 13) (Ok (ask.Fence c.number)) reserve (λ (r : Result Asked ℕ). AsksWell r)
    (λ _. tt)
    (λ _. cond_both (eqb c.kind 14) (Ok (ask.Call (Reserve c.term c.number))) forfeit (λ (r : Result Asked ℕ). AsksWell r)
    (λ _. tt)
    (λ _. cond_both (eqb c.kind 15) (Ok (ask.Call (Forfeit c.term (ascending first)))) advance (λ (r : Result Asked ℕ). AsksWell r)
    (λ _. tt)
    (λ _. cond_both (eqb c.kind 18) (Ok (ask.Call (Advance c.now c.term c.number))) made (λ (r : Result Asked ℕ). AsksWell r)
    (λ _. tt)
    (λ _. in_a_term c.term (call_given c first second) (can_be c first second)))))

pub given_is_event : (c : CallFields) (first second : List ℕ) (asked : Asked) → given c first second ≡ Ok asked → IsEvent (asked_event asked)
given_is_event c first second asked is = subst (λ (r : Result Asked ℕ). AsksWell r) is (given_well c first second)

-- The fields and the lists of what is asked for give it, and the line that is written for it asks for it.
use Rattle.relkvanu.proofs.Imports.{◌≡◌, ℕ, Bool, true, false, List, [], ◌∷◌, Ok, refl, sym, ap, ◌∙◌, ◌==◌, nat_le, Option, Some, None, Result, cond-false, from_bool, IsAscending, ascending}
use Rattle.relkvanu.proofs.Imports.{Configuration, IsWithinLimits, IsShape, is_shape, Call, Target, SubtaskId, ascending_already, limits_hold, shape_holds, is_new_shape, parallelisms, Reserve}
use Rattle.relkvanu.proofs.Imports.{Forfeit, Make, Advance, Answer, Asked, CallFields, asked_by, said, shape_of, target_of, CallHasLists, HasLists, call_fields, call_first, call_has_no_fields}
use Rattle.relkvanu.proofs.Imports.{call_second, fields_of, first_of, has_no_fields, second_of, settings_of, target_number, ReadsBack, SaysBack, call_given, configuration_in, configuring}
use Rattle.relkvanu.proofs.Imports.{given, line_of_asked}
use Rattle.ckpt_ids.specs.declared.call.Call.TheVariants as call
use Rattle.ckpt_ids.specs.declared.call.Target.TheVariants as target
use Rattle.relkvanu.specs.declared.asked.Asked.TheVariants as ask

ack_given : (term now id : ℕ) (s : SubtaskId) (fresh reused : List ℕ) → IsAscending fresh → IsAscending reused
    → call_given (call_fields term (call.Ack now id s fresh reused)) fresh reused ≡ Ok (call.Ack now id s fresh reused)
unfolding call_given
ack_given term now id s fresh reused order order' =
    ap (λ (xs : List ℕ). Ok (call.Ack now id s xs (ascending reused))) (sym (ascending_already fresh order))
    ∙ ap (λ (xs : List ℕ). Ok (call.Ack now id s fresh xs)) (sym (ascending_already reused order'))

target_back : (t : Target) → call_has_no_fields (call.Restore 0 t None) ≡ false → target_of (target_number t) ≡ t
target_back target.Latest named = refl
target_back (target.Savepoint id) named = cond-false (id == 0) target.Latest (target.Savepoint id) named

is_new : (shape : List ℕ) → is_shape shape ≡ true → is_new_shape shape ≡ true
is_new [] is = refl
is_new (p ∷ ps) is = is

shape_back : (shape : List ℕ) → is_shape shape ≡ true → shape_of shape ≡ Some shape
shape_back [] is = absurd cc
shape_back (p ∷ ps) is = refl

restore_given : (term now : ℕ) (t : Target) (shape : Option (List ℕ)) → is_new_shape (parallelisms shape) ≡ true → shape_of (parallelisms shape) ≡ shape
    → target_of (target_number t) ≡ t
    → call_given (call_fields term (call.Restore now t shape)) (parallelisms shape) [] ≡ Ok (call.Restore now t shape)
unfolding call_given
restore_given term now t shape new same back = rw (new, same, back) refl

kept_shape_given : (term now : ℕ) (t : Target) → call_has_no_fields (call.Restore now t None) ≡ false
    → call_given (call_fields term (call.Restore now t None)) [] [] ≡ Ok (call.Restore now t None)
kept_shape_given term now target.Latest named = restore_given term now target.Latest None refl refl refl
kept_shape_given term now (target.Savepoint id) named = restore_given term now (target.Savepoint id) None refl refl (target_back (target.Savepoint id) named)

new_shape_given : (term now : ℕ) (t : Target) (shape : List ℕ) → call_has_no_fields (call.Restore now t (Some shape)) ≡ false → IsShape shape
    → call_given (call_fields term (call.Restore now t (Some shape))) shape [] ≡ Ok (call.Restore now t (Some shape))
new_shape_given term now target.Latest shape named is =
    let whole = shape_holds shape is in
    restore_given term now target.Latest (Some shape) (is_new shape whole) (shape_back shape whole) refl
new_shape_given term now (target.Savepoint id) shape named is =
    let whole = shape_holds shape is in
    restore_given term now (target.Savepoint id) (Some shape) (is_new shape whole) (shape_back shape whole) (target_back (target.Savepoint id) named)

one_keep : (keep : Bool) → (from_bool keep == 1) ≡ keep
one_keep true = refl
one_keep false = refl

few_keep : (keep : Bool) → nat_le (from_bool keep) 1 ≡ true
few_keep true = refl
few_keep false = refl

configuration_back : (c : Configuration) → IsWithinLimits c → configuration_in (settings_of c) ≡ Some c
configuration_back c is = rw (few_keep c.keep_on_cancel, one_keep c.keep_on_cancel, limits_hold c is) refl

configure_given : (term now : ℕ) (c : Configuration) → IsWithinLimits c
    → call_given (call_fields term (call.Configure now c)) (settings_of c) [] ≡ Ok (call.Configure now c)
unfolding call_given
configure_given term now c is = ap (configuring now) (configuration_back c is)

-- every call that needs no names
call_back : (term : ℕ) (c : Call) → CallHasLists c → call_has_no_fields c ≡ false → call_given (call_fields term c) (call_first c) (call_second c) ≡ Ok c
unfolding call_given
call_back term (call.Tick now) lists named = refl
call_back term (call.Savepoint now) lists named = refl
call_back term (call.Ack now id s fresh reused) lists named = ack_given term now id s fresh reused lists.0 lists.1
call_back term (call.Decline now id s) lists named = refl
call_back term (call.Dispose id) lists named = refl
call_back term (call.Restore now t None) lists named = kept_shape_given term now t named
call_back term (call.Restore now t (Some shape)) lists named = new_shape_given term now t shape named lists
call_back term (call.Cancel now) lists named = refl
call_back term (call.Take most) lists named = refl
call_back term (call.Deleted file) lists named = refl
call_back term (call.Undeleted file) lists named = refl
call_back term (call.Show id) lists named = refl
call_back term (call.Count file) lists named = refl
call_back term (call.Trigger now) lists named = refl
call_back term (call.Configure now config) lists named = configure_given term now config lists

-- its kind is none of those that need names
abbrev IsOfScript : CallFields → Type 0
IsOfScript c = (c.kind == 13 ≡ false) × (c.kind == 14 ≡ false) × (c.kind == 15 ≡ false) × (c.kind == 18 ≡ false)

of_script : (term : ℕ) (c : Call) → IsOfScript (call_fields term c)
of_script term (call.Tick now) = (refl, refl, refl, refl)
of_script term (call.Savepoint now) = (refl, refl, refl, refl)
of_script term (call.Ack now id s fresh reused) = (refl, refl, refl, refl)
of_script term (call.Decline now id s) = (refl, refl, refl, refl)
of_script term (call.Dispose id) = (refl, refl, refl, refl)
of_script term (call.Restore now t shape) = (refl, refl, refl, refl)
of_script term (call.Cancel now) = (refl, refl, refl, refl)
of_script term (call.Take most) = (refl, refl, refl, refl)
of_script term (call.Deleted file) = (refl, refl, refl, refl)
of_script term (call.Undeleted file) = (refl, refl, refl, refl)
of_script term (call.Show id) = (refl, refl, refl, refl)
of_script term (call.Count file) = (refl, refl, refl, refl)
of_script term (call.Trigger now) = (refl, refl, refl, refl)
of_script term (call.Configure now config) = (refl, refl, refl, refl)

term_of_fields : (term : ℕ) (c : Call) → (call_fields term c).term ≡ term
term_of_fields term (call.Tick now) = refl
term_of_fields term (call.Savepoint now) = refl
term_of_fields term (call.Ack now id s fresh reused) = refl
term_of_fields term (call.Decline now id s) = refl
term_of_fields term (call.Dispose id) = refl
term_of_fields term (call.Restore now t shape) = refl
term_of_fields term (call.Cancel now) = refl
term_of_fields term (call.Take most) = refl
term_of_fields term (call.Deleted file) = refl
term_of_fields term (call.Undeleted file) = refl
term_of_fields term (call.Show id) = refl
term_of_fields term (call.Count file) = refl
term_of_fields term (call.Trigger now) = refl
term_of_fields term (call.Configure now config) = refl

made_back : (term : ℕ) (c : Call) → CallHasLists c → call_has_no_fields c ≡ false
    → given (call_fields term c) (call_first c) (call_second c) ≡ Ok (ask.Call (Make term c))
unfolding given
made_back term c lists named =
    let none = of_script term c in
    rw (none.0, none.1, none.2, none.3, call_back term c lists named, term_of_fields term c) refl

-- all that can be asked for
pub given_back : (asked : Asked) → HasLists asked → has_no_fields asked ≡ false → given (fields_of asked) (first_of asked) (second_of asked) ≡ Ok asked
unfolding given
given_back (ask.Fence first) lists named = refl
given_back (ask.Call (Reserve term count)) lists named = refl
given_back (ask.Call (Forfeit term names)) lists named = ap (λ (xs : List ℕ). Ok (ask.Call (Forfeit term xs))) (sym (ascending_already names lists))
given_back (ask.Call (Advance now term first)) lists named = refl
given_back (ask.Call (Make term c)) lists named = made_back term c lists named

-- the line that asks for this asks for it
asks_itself : (asked : Asked) → asked_by (line_of_asked asked) ≡ Ok asked
asks_itself (ask.Fence first) = refl
asks_itself (ask.Call call) = refl

-- a line that is read as the one that asks for what is given asks for it
pub says_back : (given : Result Asked ℕ) (line : List ℕ) (answer : Answer) → ReadsBack given line answer → SaysBack given line answer
unfolding said
says_back given line answer reads = λ asked is done. rw (reads asked is done) (asks_itself asked)

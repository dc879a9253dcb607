-- Each line of an opening is no longer than the three together, and an opening without a fault can be opened, and is sound.
use Rattle.relkvanu.proofs.Imports.{◌≡◌, ℕ, ◌+◌, ◌≤◌, Bool, true, false, eqb, ltb, List, ◌++◌, length, ap, ◌∙◌, subst, arith, ◌||◌, if◌then◌else◌, Option, Some, None, OpenFault, BadFirst}
use Rattle.relkvanu.proofs.Imports.{CanOpen, open_fault, IsSound, Opening, opened, opening_is_sound, in_bounds, NAMES_END, fenced, terms_fault, opening_fenced, config_text, job_text}
use Rattle.relkvanu.proofs.Imports.{start_text, IsWell, newline, opening_text}
use Rattle.std.proofs.lemmas.List.{length-append}
use Rattle.ckpt_terms.specs.declared.machine.Machine.TheVariants as machine

three : (a b c : List ℕ) → length (a ++ newline ++ b ++ newline ++ c ++ newline) ≡ length a + 1 + length b + 1 + length c + 1
three a b c =
    let first : length (a ++ newline ++ b) ≡ length a + 1 + length b =
    length-append (a ++ newline) b ∙ ap (λ (n : ℕ). n + length b) (length-append a newline) in
    let second : length (a ++ newline ++ b ++ newline) ≡ length a + 1 + length b + 1 =
    length-append (a ++ newline ++ b) newline ∙ ap (λ (n : ℕ). n + 1) first in
    let third : length (a ++ newline ++ b ++ newline ++ c) ≡ length a + 1 + length b + 1 + length c =
    length-append (a ++ newline ++ b ++ newline) c ∙ ap (λ (n : ℕ). n + length c) second in
    length-append (a ++ newline ++ b ++ newline ++ c) newline ∙ ap (λ (n : ℕ). n + 1) third

three_fit : (a b c : List ℕ) (most : ℕ) → length (a ++ newline ++ b ++ newline ++ c ++ newline) ≤ most
    → (length a ≤ most) × (length b ≤ most) × (length c ≤ most)
three_fit a b c most fit =
    let sum : length a + 1 + length b + 1 + length c + 1 ≤ most = subst (λ (n : ℕ). n ≤ most) (three a b c) fit in
    (omega (arith, sum), omega (arith, sum), omega (arith, sum))

pub lines_fit : (o : Opening) (most : ℕ) → length (opening_text o) ≤ most
    → (length (config_text o.config) ≤ most) × (length (job_text o.shape) ≤ most) × (length (start_text o.start) ≤ most)
unfolding opening_text
lines_fit o most fit = three_fit (config_text o.config) (job_text o.shape) (start_text o.start) most fit

-- an opening whose arguments are all good

pub can_open : (o : Opening) → IsSound (opened o) → open_fault o.start o.first ≡ None → CanOpen o
can_open o sound none =
    let its = in_bounds o.start o.first none in
    record { config = sound.config; shape = sound.shape; start = its.start; first_from = its.first_from; first_to = its.first_to }

pub can_open_named : (o : Opening) (first_name : ℕ) → IsSound (opened o) → terms_fault o.start o.first first_name ≡ None → CanOpen o
can_open_named o first_name sound none = can_open o sound (opens_core ((eqb first_name 0) || ltb NAMES_END first_name) (open_fault o.start o.first) none)
  where
    opens_core : (b : Bool) (fault : Option OpenFault) → (if b then Some BadFirst else fault) ≡ None → fault ≡ None
    opens_core true fault none = absurd cc
    opens_core false fault none = none

-- and the coordinator begins sound

pub opened_well : (o : Opening) → CanOpen o → IsWell (machine.Plain (opened o))
opened_well o can = opening_is_sound o can

pub fenced_well : (o : Opening) (first_name : ℕ) → CanOpen o → 1 ≤ first_name → first_name ≤ NAMES_END → IsWell (machine.Fenced (fenced o first_name))
fenced_well o first_name can from to = opening_fenced o first_name (record { core = can; first_from = from; first_to = to })

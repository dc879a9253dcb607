-- What a line that prints something leaves of the configuration and of the shape: both stay.
use Rattle.ckpt_session.proofs.Names.{◌≡◌, ℕ, Bool, true, false, cond, List, refl, Option, Some, None, is_some, nat_le, Result, Ok, Err, OnErr, both_ways, MOMENTS_END, Call, Configuration, is_shape}
use Rattle.ckpt_session.proofs.Names.{State, Line, AllLine, is_said, Scene, Done, configured, shaped, started, called, all_called, obeyed}
use Rattle.ckpt_lines.specs.declared.line.Line.TheVariants as line

abbrev Keeps : Scene → Done → Type 0
Keeps scene d = is_said d.1 ≡ true → (d.0.config ≡ scene.config) × (d.0.shape ≡ scene.shape)

either : (scene : Scene) (b : Bool) (x y : Done) → Keeps scene x → Keeps scene y → Keeps scene (cond b x y)
either scene true x y k l = k
either scene false x y k l = l

no_text : {P : Type 0} → false ≡ true → P
no_text s = absurd (both_ways false refl s)

on_configured : (scene : Scene) (o : Option Configuration) → Keeps scene (configured scene o)
unfolding configured
on_configured scene (Some config) = λ s. no_text s
on_configured scene None = λ s. (refl, refl)

on_shaped : (scene : Scene) (shape : List ℕ) → Keeps scene (shaped scene shape)
unfolding shaped
on_shaped scene shape = either scene (is_shape shape) _ _ (λ s. no_text s) (λ s. (refl, refl))

on_started : (scene : Scene) (now : ℕ) (c : Option Configuration) (s : Option (List ℕ)) → Keeps scene (started scene now c s)
unfolding started
on_started scene now (Some config) (Some shape) = either scene (nat_le MOMENTS_END now) _ _ (λ s. (refl, refl)) (λ s. no_text s)
on_started scene now (Some config) None = λ s. (refl, refl)
on_started scene now None shape = λ s. (refl, refl)

on_called : (scene : Scene) (m : Option State) (c : Call) → Keeps scene (called scene m c)
unfolding called
on_called scene None c = λ s. (refl, refl)
on_called scene (Some m) c = λ s. (refl, refl)

on_all : (scene : Scene) (m : Option State) (all : AllLine) → Keeps scene (all_called scene m all)
unfolding all_called
on_all scene None all = λ s. (refl, refl)
on_all scene (Some m) all = λ s. (refl, refl)

pub kept : (scene : Scene) (l : Line) → is_said (obeyed scene l).1 ≡ true → ((obeyed scene l).0.config ≡ scene.config) × ((obeyed scene l).0.shape ≡ scene.shape)
unfolding obeyed
kept scene line.Skip = λ s. no_text s
kept scene (line.Config interval pause at_once timeout tolerable retained keep_on_cancel) = either scene (is_some scene.core) _ _ (λ s. (refl, refl)) (on_configured scene _)
kept scene (line.Job parallelisms) = either scene (is_some scene.core) _ _ (λ s. (refl, refl)) (on_shaped scene parallelisms)
kept scene (line.Start now) = either scene (is_some scene.core) _ _ (λ s. (refl, refl)) (on_started scene now scene.config scene.shape)
kept scene (line.Call c) = on_called scene scene.core c
kept scene line.BadShape = either scene (is_some scene.core) _ _ (λ s. (refl, refl)) (λ s. (refl, refl))
kept scene (line.All now id threads first) = on_all scene scene.core _

-- what follows of a fact follows of it beside an error
pub on_err-then : {T E : Type 0} (r : Result T E) (P Q : Type 0) → (P → Q) → OnErr r P → OnErr r Q
on_err-then (Ok x) P Q then h = tt
on_err-then (Err x) P Q then h = then h

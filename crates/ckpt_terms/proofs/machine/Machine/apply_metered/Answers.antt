-- Answers the goals of `Machine::apply_metered`.
use Rattle.ckpt_terms.proofs.Imports.{◌≡◌, true, sym, ap, subst, IfOk, Result, Ok, Err, Call, FencedAnswer, Make, Machine, Fenced, FencedStepped, fenced_step, MakesStep, names_in, passes}
use Rattle.ckpt_terms.proofs.MachineLemmas.{passed_on}
use Rattle.ckpt_terms.specs.declared.machine.Machine.TheVariants as machine
use Rattle.ckpt_terms.proofs.machine.Machine.apply_metered.Goals as goal

-- what the layer has done, in the words of a coordinator with names
of_layer : {E : Type 0} (k : Machine) (m n : Fenced) (call : Call) (r : Result FencedAnswer E) → k ≡ machine.Fenced m
    → IfOk r (λ answer. fenced_step m (Make 0 call) ≡ (n, answer))
    → IfOk r (λ answer. passes (names_in k) call ≡ true → MakesStep k (machine.Fenced n) call answer)
of_layer k m n call (Ok answer) is done =
    let P : Machine → Type 0 = λ j. passes (names_in j) call ≡ true → MakesStep j (machine.Fenced n) call answer in
    subst P (sym is) (passed_on (machine.Fenced m) (machine.Fenced n) call answer (ap (λ (s : FencedStepped). (machine.Fenced s.0, s.1)) done))
of_layer k m n call (Err why) is done = tt

pub returns-in-Fenced-clause-passes : goal.returns-in-Fenced-clause-passes
returns-in-Fenced-clause-passes c = of_layer c.args.self.now c.in-Fenced.terms c.make_metered.new.self c.args.call.now c.make_metered.result c.in-Fenced.is c.make_metered.ensures.done

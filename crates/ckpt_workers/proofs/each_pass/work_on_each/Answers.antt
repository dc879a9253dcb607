-- Answers the goals of `work_on_each`.
use Rattle.ckpt_workers.proofs.{CallsOn, Err, IfOk, List, Ok, Result, crosses, get_or, length, pass_send, rules, sendable, subst, sym, ℕ, ◌<◌}
use Rattle.std.specs.Fork.{GivesJob, GivesJobs}
use denote.Param.Members.{Shared}
use Rattle.ckpt_workers.proofs.each_pass.work_on_each.Goals as goal

pub map_vec-requires-send-J : goal.map_vec-requires-send-J
map_vec-requires-send-J g c κs within = search (pass_send, sendable, crosses) depth 20

pub map_vec-requires-send-X : goal.map_vec-requires-send-X
map_vec-requires-send-X g c κs within = search (pass_send, sendable, crosses) depth 40 fits 20000

-- a fact about each call holds for the job and the result at each place
used_by : {F J R V E : Type 0} (g : Shared F (J × Unit {0}) R) (f : F) (items : V → List R) (jobs : List J) (P : J → R → Type 0) (result : Result V E)
    → ((i : ℕ) (r : R) (done : GivesJob g f jobs i r) → P done.job r) → IfOk result (λ v. GivesJobs g f jobs (items v))
    → IfOk result (λ v. (i : ℕ) (x : J) (r : R) → i < length jobs → P (get_or jobs i x) (get_or (items v) i r))
used_by g f items jobs P (Ok v) fact all = λ i x r below.
    let done = (all i r below).1 in
    subst (λ y. P y (get_or (items v) i r)) (sym (done.job_is x)) (fact i (get_or (items v) i r) done)
used_by g f items jobs P (Err e) fact all = tt

pub returns-clause-each : goal.returns-clause-each
returns-clause-each g c = used_by _ _ (λ v. v.items) c.args.passes.items (λ p r. CallsOn p r.0) c.map_vec.result (λ i r done. let h = done.call.met in search rules) c.map_vec.ensures.each

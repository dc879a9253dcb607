-- Answers the goals of `write_whole`.
use Rattle.ckpt_script.proofs.{arith, drop, length-drop, refl, ◌∙◌, take-append-drop, Appends-trans, Appends-as, Appends-kept, take_rest}
use Rattle.ckpt_script.proofs.printed.write_whole.Goals as goal

pub loop-done-preserved : goal.loop-done-preserved
loop-done-preserved g c = record {
  going_on = c.in-Ok.ensures.going_on ∙ c.loop-done.invariant.going_on;
  same_sink = c.write.ensures.same ∙ c.loop-done.invariant.same_sink;
  within = omega (arith, length-drop c.loop-done.done c.args.bytes.now, c.in-Ok.ensures.bound);
  appended = Appends-as _ _ _ _ (take_rest c.loop-done.done c.in-Ok.count c.args.bytes.now) (Appends-trans _ _ _ _ _ c.loop-done.invariant.appended c.in-Ok.ensures.bytes);
}

-- a write failed: the rest was not written
pub returns-in-Err-clause-err : goal.returns-in-Err-clause-err
returns-in-Err-clause-err g c =
    (refl, (_, drop c.loop-done.done c.args.bytes.now, Appends-kept _ _ _ _ c.loop-done.invariant.appended c.in-Err.ensures.bytes, take-append-drop c.loop-done.done c.args.bytes.now))

-- Answers the goals of `Session::say_bytes_onto`.
use Rattle.ckpt_session.proofs.{◌≡◌, ◌++◌, ap, sym, ◌∙◌, string_bytes, on_ok_weaker, Said, said_call, enters_call}
use Rattle.ckpt_lines.specs.Reading.{reading}
use Rattle.ckpt_session.proofs.session.Session.say_bytes_onto.Goals as goal

pub returns-in-Some-clause-scene : goal.returns-in-Some-clause-scene
returns-in-Some-clause-scene g c =
    let says = said_call c.args.number c.args.self.now.scene (reading c.args.line.now) c.in-Some.call c.in-Some.ensures.call in
    on_ok_weaker c.say_call.result (λ made. made ∙ ap (λ (s : Said). s.0) (sym says)) c.say_call.ensures.scene

pub returns-in-Some-clause-text : goal.returns-in-Some-clause-text
returns-in-Some-clause-text g c =
    let says = said_call c.args.number c.args.self.now.scene (reading c.args.line.now) c.in-Some.call c.in-Some.ensures.call in
    on_ok_weaker c.say_call.result (λ made. made ∙ ap (λ (s : Said). string_bytes c.args.text.now ++ s.1) (sym says)) c.say_call.ensures.text

pub returns-in-Some-clause-entered : goal.returns-in-Some-clause-entered
returns-in-Some-clause-entered g c =
    on_ok_weaker c.say_call.result (enters_call (reading c.args.line.now) c.in-Some.call c.args.self.now c.say_call.new.self.entries c.in-Some.ensures.call) c.say_call.ensures.entered

-- A show is refused exactly if no live record has the number.
use Rattle.ckpt_core.proofs.{◌∙◌, refl, sym, Ok, Err, Show, NoSuchRecord, Shown, Memory, state_of, show_wants, show_absent, show_live, show_told, shown_answers, names_it, names_none, live_in_order}
use Rattle.ckpt_core.proofs.parts.Parts.show.Goals as goal

pub metadata-requires : goal.metadata-requires
metadata-requires c = live_in_order c.args.self.now c.requires

pub returns-in-Ok-Some-clause-ok : goal.returns-in-Ok-Some-clause-ok
returns-in-Ok-Some-clause-ok c =
    let told = sym c.in-Ok-Some.field-0-is ∙ c.in-Ok-Some.ensures.value in
    shown_answers c.args.self.now c.args.id c.in-Ok-Some.metadata c.requires (show_told (state_of c.args.self.now) c.args.id c.in-Ok-Some.metadata told) (sym told)

pub returns-in-Ok-Some-clause-refused : goal.returns-in-Ok-Some-clause-refused
returns-in-Ok-Some-clause-refused c =
    let m = state_of c.args.self.now in
    names_none m (Show c.args.id) (Ok (Shown c.in-Ok-Some.metadata)) tt (show_told m c.args.id c.in-Ok-Some.metadata (sym c.in-Ok-Some.field-0-is ∙ c.in-Ok-Some.ensures.value))

pub returns-in-Ok-None-clause-refused : goal.returns-in-Ok-None-clause-refused
returns-in-Ok-None-clause-refused c = let m = state_of c.args.self.now in names_it m (Show c.args.id) NoSuchRecord (show_absent m c.args.id (sym c.in-Ok-None.field-0-is ∙ c.in-Ok-None.ensures.value))

pub returns-in-Err-clause-refused : goal.returns-in-Err-clause-refused
returns-in-Err-clause-refused c = let m = state_of c.args.self.now in names_none m (Show c.args.id) (Err Memory) refl (show_live m c.args.id c.in-Err.ensures.memory)

pub returns-in-Err-clause-memory : goal.returns-in-Err-clause-memory
returns-in-Err-clause-memory c = λ e. let m = state_of c.args.self.now in show_wants m c.args.id (show_live m c.args.id c.in-Err.ensures.memory)

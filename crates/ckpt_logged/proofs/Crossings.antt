-- A coordinator with its events may cross threads.
use Rattle.ckpt_logged.proofs.Names.{fields, IsSend, AllSend, sendable, view_send, crosses, declared_send, core_send}
use Rattle.ckpt_terms.specs.contracts.names.Names as Names
use Rattle.ckpt_terms.specs.contracts.terms.Terms as Terms
use Rattle.ckpt_terms.specs.contracts.terms.Terms.TheInside as InTerms
use Rattle.ckpt_terms.specs.contracts.machine.Machine as Machine
use Rattle.ckpt_logged.specs.contracts.logged.Logged as Logged
use Rattle.ckpt_logged.specs.contracts.logged.Logged.TheInside as InLogged

names_send : IsSend Names.the_row
names_send = search (sendable, crosses) depth 80 fits 20000

terms_fields : AllSend (fields InTerms.the_type)
terms_fields = search (core_send, names_send, sendable, crosses) depth 80 fits 20000

terms_send : IsSend Terms.the_row
terms_send = view_send _ _ _ _ _ (declared_send InTerms.the_type terms_fields)

machine_send : IsSend (Machine.the_field).row
machine_send = search (core_send, terms_send, sendable, crosses) depth 80 fits 20000

logged_fields : AllSend (fields InLogged.the_type)
logged_fields = (machine_send, (search (sendable, crosses) depth 80 fits 20000, (search (sendable, crosses) depth 80 fits 20000, tt)))

pub logged_send : IsSend Logged.the_row
logged_send = view_send _ _ _ _ _ (declared_send InLogged.the_type logged_fields)

use mathlib.Core.Path.{refl}
use Rattle.list_calls.proofs.tell_listed.Goals as goal

pub returns-in-Ok : goal.returns-in-Ok
returns-in-Ok c = rw c.in-Ok.is (record { answers = refl; leaves = c.put_words.ensures })

pub returns-in-Err : goal.returns-in-Err
returns-in-Err c = rw c.in-Err.is (record { answers = refl; leaves = c.put_words-in-Err.ensures })

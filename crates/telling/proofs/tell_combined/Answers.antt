-- `telling::tell_combined` meets its contract: case by case. Assumes nothing.
use mathlib.Core.Path.{◌≡◌, refl}
use Rattle.combining.specs.declared.Fault.TheVariants.{First, Second, Both}
use Rattle.telling.specs.Told.{returned, told_of}
use Rattle.telling.proofs.tell_combined.Goals as goal

pub returns-in-Ok : goal.returns-in-Ok
unfolding returned told_of
returns-in-Ok c = rw c.in-Ok.is (refl, c.words.ensures)

pub returns-in-Err-First : goal.returns-in-Err-First
unfolding returned told_of
returns-in-Err-First c =
    let a = c.in-Err-First in
    let q : a.field-0 ≡ First a.refusal = rw a.is at a.field-0-is in
    rw a.is (rw q c.tell_refusal.ensures)

pub returns-in-Err-Second : goal.returns-in-Err-Second
unfolding returned told_of
returns-in-Err-Second c =
    let a = c.in-Err-Second in
    let q : a.field-0 ≡ Second a.refusal = rw a.is at a.field-0-is in
    rw a.is (rw q c.tell_refusal-in-Err-Second.ensures)

pub returns-in-Err-Both : goal.returns-in-Err-Both
unfolding returned told_of
returns-in-Err-Both c =
    let a = c.in-Err-Both in
    let q : a.field-0 ≡ Both a.refusal = rw a.is at a.field-0-is in
    rw a.is (rw q c.tell_refusal-in-Err-Both.ensures)

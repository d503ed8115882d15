use Rattle.euler_check.proofs.PartsAre.{are_parts, no_fault}
use Rattle.euler_check.proofs.euler.parts.Goals as goal

pub returns-in_err-rings-clause-exactly : goal.returns-in_err-rings-clause-exactly
returns-in_err-rings-clause-exactly c = no_fault c.args.rotation.now

pub returns-in_err-components-clause-exactly : goal.returns-in_err-components-clause-exactly
returns-in_err-components-clause-exactly c = no_fault c.args.rotation.now

pub returns-in_err-refusal-clause-exactly : goal.returns-in_err-refusal-clause-exactly
returns-in_err-refusal-clause-exactly c = no_fault c.args.rotation.now

pub returns-in_err-refusal-2-clause-exactly : goal.returns-in_err-refusal-2-clause-exactly
returns-in_err-refusal-2-clause-exactly c = no_fault c.args.rotation.now

pub returns-in-Some-2-clause-exactly : goal.returns-in-Some-2-clause-exactly
returns-in-Some-2-clause-exactly c = no_fault c.args.rotation.now

pub returns-clause-exactly : goal.returns-clause-exactly
returns-clause-exactly c = no_fault c.args.rotation.now

pub returns-clause-parts : goal.returns-clause-parts
returns-clause-parts c =
    are_parts c.args.rotation.now c.new.result c.in_ok-refusal.field-0 c.in_ok-refusal-2.field-0 c.in_ok-rings.rings c.in_ok-components.components c.in_ok-refusal.ensures.labelled c.in_default.is c.in_ok-refusal-2.ensures c.in_default-2.is
    c.new.ensures.rings c.in_ok-rings.ensures.numbers c.in_ok-rings.ensures.count c.new.ensures.components c.in_ok-components.ensures.numbers c.in_ok-components.ensures.count

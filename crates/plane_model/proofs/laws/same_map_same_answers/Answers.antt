use Rattle.std.proofs.Common.{ap}
use Rattle.plane_model.specs.Answers.{answers, listed, walked}
use Rattle.plane_model.specs.Consistent.{size}
use Rattle.plane_model.proofs.laws.same_map_same_answers.Goals as goal

pub returns-clause-answers : goal.returns-clause-answers
returns-clause-answers c = λ t u same script. ap (λ m. answers m script) same.2

pub returns-clause-walked : goal.returns-clause-walked
returns-clause-walked c = λ t u same line. ap (λ m. walked m line) same.2

pub returns-clause-listed : goal.returns-clause-listed
returns-clause-listed c = λ t u same line. ap (λ m. listed m line) same.2

pub returns-clause-size : goal.returns-clause-size
returns-clause-size c = λ t u same. ap size same.2

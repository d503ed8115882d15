use Rattle.spanning_pair.proofs.laws.crossed_or_nested.Goals as goal

pub returns : goal.returns
returns c = λ dart tree n closing f nested.
    nested.nest f.begin f.later_begin f.end f.later_end f.crossing.later f.crossing.before f.ends_later f.within f.crossing.other f.crossing.other_later f.crossing.closes f.closes_later

use Rattle.std.proofs.Common.{arith}
use Rattle.std.proofs.lemmas.Bool.Decides.{nat_tests}
use Rattle.card.proofs.Writing.{written}
use Rattle.card.proofs.Card.write.Goals as goal

pub write_front-requires : goal.write_front-requires
write_front-requires c =
    let good = c.requires.good in
    let room = c.requires.room in
    let long = c.deref_mut.ensures.len in
    let value = c.deref_mut.ensures.value in grind (arith, nat_tests)

pub invariant_of-self : goal.invariant_of-self
invariant_of-self c =
    let w = written c.args.self.now.memory c.args.number c.args.payload.now _ _ c.requires.good c.requires.room c.deref_mut.ensures.value c.write_front.ensures in
    record { within = λ h is. let l = w.within in grind arith; distinct = w.distinct; room = w.room }

pub returns : goal.returns
returns c =
    let w = written c.args.self.now.memory c.args.number c.args.payload.now _ _ c.requires.good c.requires.room c.deref_mut.ensures.value c.write_front.ensures in
    record { after = w.after; size = w.long }

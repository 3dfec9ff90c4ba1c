use Rattle.std.proofs.Common.{sym, ap, subst}
use Rattle.sender.specs.Senders.{sender_seen, WantsTheMissing, SenderSound}
use Rattle.sender.proofs.Reporting.{delivered_keeps, delivered_wants}
use Rattle.sender.proofs.sender.Sender.deliver.Goals as goal

pub returns : goal.returns
returns g c =
    let s = sender_seen g.Q.Store.meaning g.P.Phase.ended c.args.self.now in
    let bytes = c.args.bytes.now in
    let out = c.args.reply.now in
    let e = c.deliver.ensures in
    record {
      answer = e.answer;
      after = e.after;
      buffer = e.buffer;
      wants = subst (WantsTheMissing bytes c.deliver.result) (ap (λ x. x.wanted) (sym e.after)) (delivered_wants s bytes out c.deliver.result e.answer);
      keeps = λ sound. subst SenderSound (sym e.after) (delivered_keeps s bytes out c.deliver.result e.answer sound);
    }

use Rattle.journal_reader.proofs.Taking.{took_fits, took_small, takes}
use Rattle.journal_file.specs.Replaying.{stepping}
use Rattle.checksum.specs.Slices.{crc_by}
use Rattle.bits.proofs.Cases.{clash}
use Rattle.std.proofs.Common.{ℕ, ◌-◌, ◌^◌, ◌<◌, take, drop, refl, ap, ◌∙◌, subst, arith, rules}
use Rattle.journal_reader.proofs.take.Goals as goal

pub overflow_add-next : goal.overflow_add-next
overflow_add-next c = let h = took_small c.args.t.now c.args.room.now c.args.buf.now c.args.q c.requires.0 c.take_append-s.result (c.take_append-s.ensures.0 ∙ ap (λ (n : ℕ). (stepping (crc_by c.args.t.now) c.args.q.replay (take (n - c.args.q.at) (drop c.args.q.at c.args.buf.now)) c.args.room.now).says) c.requires.2) c.if-s-eq0.false c.requires.2 c.ranges.end.fits in search rules

pub messages_of-messages-requires : goal.messages_of-messages-requires
messages_of-messages-requires c = let i = took_fits c.args.t.now c.args.room.now c.args.buf.now c.args.q c.requires.0 c.take_append-s.result (c.take_append-s.ensures.0 ∙ ap (λ (n : ℕ). (stepping (crc_by c.args.t.now) c.args.q.replay (take (n - c.args.q.at) (drop c.args.q.at c.args.buf.now)) c.args.room.now).says) c.requires.2) c.if-s-eq0.false in (i.0, i.1)

pub returns : goal.returns
returns c = let i = took_fits c.args.t.now c.args.room.now c.args.buf.now c.args.q c.requires.0 c.take_append-s.result (c.take_append-s.ensures.0 ∙ ap (λ (n : ℕ). (stepping (crc_by c.args.t.now) c.args.q.replay (take (n - c.args.q.at) (drop c.args.q.at c.args.buf.now)) c.args.room.now).says) c.requires.2) c.if-s-eq0.false in (λ n. clash refl n, λ y. (refl, omega (arith, i.0), i.2, c.requires.2), λ y l. let k = takes c.args.t.now c.args.room.now c.args.buf.now c.args.q c.requires.0 c.take_append-s.result (c.take_append-s.ensures.0 ∙ ap (λ (n : ℕ). (stepping (crc_by c.args.t.now) c.args.q.replay (take (n - c.args.q.at) (drop c.args.q.at c.args.buf.now)) c.args.room.now).says) c.requires.2) c.if-s-eq0.false (subst (λ (n : ℕ). n < 2 ^ 32) c.requires.1 c.ranges.sum.fits) (λ i. omega (arith, c.shared_slice_known-2-1.given i)) l in (k.0, k.1, k.2, k.3))

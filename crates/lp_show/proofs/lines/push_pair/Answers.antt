use Rattle.lp_show.proofs.Listings.{five_pieces}
use Rattle.lp_show.proofs.lines.push_pair.Goals as goal

pub write_term-requires : goal.write_term-requires
write_term-requires c = record { ready = c.requires.ready; term = c.requires.sides.0; idle = record { tasks = c.requires.idle.tasks; binders = c.requires.idle.binders } }

pub write_term-requires-2 : goal.write_term-requires-2
write_term-requires-2 c = record { ready = c.requires.ready; term = c.requires.sides.1; idle = record { tasks = c.in_ok-write_term.ensures.idle.tasks; binders = c.in_ok-write_term.ensures.idle.binders } }

pub returns : goal.returns
returns c = record {
  idle = record { tasks = c.in_ok-write_term-2.ensures.idle.tasks; binders = c.in_ok-write_term-2.ensures.idle.binders };
  text =
      five_pieces c.args.writer.now.out.items c.extend_from_slice.new.self.items c.write_term.new.writer.out.items c.extend_from_slice-2.new.self.items c.write_term-2.new.writer.out.items c.extend_from_slice-3.new.self.items _ _ _ _ _
      c.in_ok-extend_from_slice.ensures.items c.in_ok-write_term.ensures.text c.in_ok-extend_from_slice-2.ensures.items c.in_ok-write_term-2.ensures.text c.in_ok-extend_from_slice-3.ensures.items;
}

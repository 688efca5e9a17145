use Rattle.std.proofs.Common.{[], refl, sym, ap, ◌∙◌, Some, length}
use Rattle.lp_model.specs.Flat.{goal_list}
use Rattle.lp_plain.specs.Entries.{in_scope, no_frame}
use Rattle.lp_plain.proofs.DeniedGoals.{inner_begun, one_longer}
use Rattle.lp_plain.proofs.Frames.{list_at_on, list_of}
use Rattle.lp_plain.proofs.Growing.{grows_kept}
use Rattle.lp_plain.proofs.Opening.{same_stands}
use Rattle.lp_plain.proofs.WrittenGrows.{list_in_later}
use Rattle.lp_plain.proofs.WrittenSearches.{search_aside, search_list}
use Rattle.lp_plain.proofs.ProgramKept.{goals_keep, program_then}
use Rattle.std.proofs.Common.{◌≡◌, ◌∷◌, ◌++◌, append-nil, false, subst}
use Rattle.std.specs.Prelude.{◌⊎◌}
use Rattle.lp_pattern.proofs.Keeps.{goes_on_then}
use Rattle.lp_plain.specs.declared.frame.Frame.{Frame}
use Rattle.lp_plain.specs.Denials.{with_lost}
use Rattle.lp_plain.specs.Entries.{Reads, placed}
use Rattle.lp_plain.proofs.negation.begin.Goals as goal

pub returns-clause-inner : goal.returns-clause-inner
returns-clause-inner c = λ a hs σ b w x n t z.
    let m = c.args.machine.now in
    let p = c.args.place in
    let k = c.in_ok-put_choice.ensures in
    let f = c.in_ok-first.ensures in
    let count = one_longer m.choices.items c.put_choice.new.self.choices.items _ k.more in
    inner_begun m _ p _ (length m.choices.items) a hs σ b w refl refl refl refl (c.len-mark.ensures ∙ c.put_choice.new.self.choices.ok.0 ∙ ap length (sym f.course.choices))
    (f.reads a (goal_list (in_scope σ p.values.types hs)) []
    (list_at_on m c.put_choice.new.self p c.args.goals (goal_list (in_scope σ p.values.types hs)) k.goals (list_of m p c.args.goals hs σ x)) (no_frame refl refl))
    (ap (λ v. v.next) f.course.branch ∙ ap (λ v. v.next) k.branch) (ap (λ v. v.next_type) f.course.branch ∙ ap (λ v. v.next_type) k.branch)
    (ap (λ v. v.pairs.items) f.course.branch ∙ c.new.ensures.items) (f.course.denied ∙ ap Some (c.len-number.ensures ∙ m.choices.ok.0))
    (ap length f.course.choices ∙ count) n t z

pub returns-clause-written : goal.returns-clause-written
returns-clause-written c = λ ar i w s.
    let m = c.args.machine.now in
    let n = c.put_choice.new.self in
    let p = c.args.place in
    let k = c.in_ok-put_choice.ensures in
    let f = c.in_ok-first.ensures in
    let one = search_aside m n _ i k.goals k.frames k.assumed k.alternative ar s in
    let j = same_stands m n k.goals k.frames i in
    let l = list_in_later m n i (grows_kept m n k.goals) ar p.values.scope [] c.args.goals w in
    let z = search_list _ c.put_list.new.self c.args.goals _ _ f.goals f.assumed f.course.choices f.puts ar (record { table = j.table; values = j.values; frames = j.frames }) l
    (record { at_work = one.at_work; alternatives = one.alternatives; older = one.older }) in
    record { at_work = z.at_work; alternatives = z.alternatives; older = z.older }

pub returns-clause-program : goal.returns-clause-program
returns-clause-program c =
    let m = c.args.machine.now in
    let n = c.put_choice.new.self in
    let q = c.put_list.new.self in
    let y = goals_keep _ q c.in_ok-first.ensures.goals in
    let z = program_then m n q (goals_keep m n c.in_ok-put_choice.ensures.goals) (record { bank = y.bank; table = y.table; index = y.index }) in
    record { bank = z.bank; table = z.table; index = z.index }

pub returns-clause-begun : goal.returns-clause-begun
returns-clause-begun c =
    let m = c.args.machine.now in
    let p = c.args.place in
    let n = c.put_choice.new.self in
    let o = c.put_list.new.self in
    let k = c.in_ok-put_choice.ensures in
    let f = c.in_ok-first.ensures in
    record {
      goals = record {
        known = record {
          bank = f.goals.known.bank ∙ k.goals.known.bank;
          bindings = f.goals.known.bindings ∙ k.goals.known.bindings;
          scopes = f.goals.known.scopes ∙ k.goals.known.scopes;
          table = f.goals.known.table ∙ k.goals.known.table;
          standings = f.goals.known.standings ∙ k.goals.known.standings;
          index = f.goals.known.index ∙ k.goals.known.index;
        };
        frames = goes_on_then m.frames.items n.frames.items o.frames.items k.goals.frames f.goals.frames;
      };
      assumed = record { assumptions = f.assumed.assumptions ∙ k.assumed.assumptions; newest = f.assumed.newest ∙ k.assumed.newest };
      mark = c.len-mark.result;
      mark_is = c.len-mark.ensures ∙ c.put_choice.new.self.choices.ok.0 ∙ ap length (sym f.course.choices);
      frame = subst (λ z. (o.frames.items ≡ z.items) ⊎ ((g : Frame) × (g.place ≡ record p { mark = c.len-mark.result }) × (o.frames.items ≡ z.items ++ g ∷ []))) k.frames f.frame;
      stands = λ i.
          (let j = same_stands m n k.goals k.frames i in
          let z = f.stands (record { table = j.table; values = j.values; frames = j.frames }) in
          record { table = z.table; values = z.values; frames = z.frames });
      more = record {
        choice = k.alternative.choice;
        more = f.course.choices ∙ k.alternative.more;
        left = k.alternative.left;
        next = k.alternative.next;
        next_type = k.alternative.next_type;
        frames = k.alternative.frames;
        blocks = k.alternative.blocks;
        values = k.alternative.values;
        assumptions = k.alternative.assumptions;
        newest = k.alternative.newest;
        standings = k.alternative.standings;
        bound_terms = k.alternative.bound_terms;
        bound_types = k.alternative.bound_types;
        pairs = k.alternative.pairs;
      };
      inside = f.course.denied ∙ ap Some (c.len-number.ensures ∙ m.choices.ok.0);
      counts = f.course.counts ∙ ap (λ z. with_lost z false) k.counts;
      next = ap (λ v. v.next) f.course.branch ∙ ap (λ v. v.next) k.branch;
      next_type = ap (λ v. v.next_type) f.course.branch ∙ ap (λ v. v.next_type) k.branch;
      pairs = ap (λ v. v.pairs.items) f.course.branch ∙ c.new.ensures.items;
      reads = λ a gs l. subst (Reads o a c.in_ok-first.first) (append-nil (placed a (record p { mark = c.len-mark.result }) gs))
          (f.reads a gs [] (list_at_on m n p c.args.goals gs k.goals l) (no_frame refl refl));
    }

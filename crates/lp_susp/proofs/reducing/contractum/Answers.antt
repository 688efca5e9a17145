use Rattle.std.proofs.Common.{◌<◌, ◌∷◌, length, map, slice_index_or, sym, subst, arith}
use Rattle.std.specs.Prelude.{All}
use Rattle.lp_store.specs.Contents.{span}
use Rattle.lp_store.specs.Reading.{AvoidsAll, ReadAll, IsAmong}
use Rattle.lp_susp.proofs.Laws.{read_all_kept}
use Rattle.lp_susp.proofs.Chains.{avoids_all_kept, ids_below}
use Rattle.lp_susp.proofs.Redexes.{first_read, first_among, some_length}
use Rattle.lp_susp.proofs.reducing.contractum.Goals as goal

pub returns-clause-avoids : goal.returns-clause-avoids
returns-clause-avoids c = λ x h a b.
    let s = c.args.store.now in
    let y = c.instantiate.new.store in
    let g = c.args.arguments in
    let e = c.in_ok-inside.ensures.kept in
    let q = c.items.ensures.items in
    let n : 0 < length c.items.result.now = subst (λ l. 0 < length l) (sym q) (some_length s.items g.from g.count c.requires.arguments c.requires.some) in
    let y0 = slice_index_or c.items.result.now 0 (record { 0 = 0 }) in
    let i = c.in_ok-inside.ensures.avoids x h a (b y0.0 (subst (λ l. IsAmong y0.0 (map (λ t. t.0) l)) q (first_among c.items.result.now (record { 0 = 0 }) n))) in
    let all : AvoidsAll y x (map (λ t. t.0) (span s.items g.from g.count)) =
    avoids_all_kept s y x (map (λ t. t.0) (span s.items g.from g.count)) e (ids_below (length s.cells) (span s.items g.from g.count) (subst (λ l. All (λ t. t.0 < length s.cells) l) q c.items.ensures.within)) b in
    c.in_ok-result.ensures.avoids x (omega (arith, h, e.more_cells)) i (subst (λ l. AvoidsAll y x (map (λ t. t.0) l)) (sym (e.items g.from g.count c.requires.arguments)) all)

pub returns-clause-reads : goal.returns-clause-reads
returns-clause-reads c = λ m n u us r k p.
    let s = c.args.store.now in
    let y = c.instantiate.new.store in
    let g = c.args.arguments in
    let e = c.in_ok-inside.ensures.kept in
    let q = c.items.ensures.items in
    let i = c.in_ok-inside.ensures.reads m n u r k (first_read s c.items.result.now _ u us (subst (λ l. ReadAll s (map (λ t. t.0) l) (u ∷ us)) (sym q) p)) in
    c.in_ok-result.ensures.reads _ u us i (subst (λ l. ReadAll y (map (λ t. t.0) l) (u ∷ us)) (sym (e.items g.from g.count c.requires.arguments)) (read_all_kept e p))

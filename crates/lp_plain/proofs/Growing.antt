-- What is read of a branch stays while the bank and the scopes grow.
use Rattle.std.proofs.Common.{ℕ, zero, suc, ◌<◌, List, [], ◌∷◌, ◌++◌, length, take, drop, sym, ◌∙◌, subst, arith, Option}
use Rattle.std.specs.Prelude.{All}
use Rattle.std.proofs.lemmas.List.Elements.{All-nil, All-head, All-tail, All-cons, All-weaker, All-append}
use Rattle.lp_calculus.specs.Term.{Term}
use Rattle.lp_term.specs.Nodes.{Nodes, Extends, tree}
use Rattle.lp_term.specs.Spine.{LooseBelow}
use Rattle.lp_term.specs.declared.node.TermId.{TermId}
use Rattle.lp_term.proofs.Trees.{extends_same, extends-trans}
use Rattle.lp_model.specs.Branch.{Entry}
use Rattle.lp_model.specs.Flat.{Goal, Goals}
use Rattle.lp_pattern.specs.Growing.{GoesOn}
use Rattle.lp_pattern.proofs.Keeps.{goes_on_same, goes_on_then}
use Rattle.lp_plain.specs.declared.frame.Frame.{Frame}
use Rattle.lp_plain.specs.declared.frame.Place.{Place}
use Rattle.lp_plain.specs.declared.frame.Todo.{Todo}
use Rattle.lp_plain.specs.declared.machine.Machine.{Machine}
use Rattle.lp_plain.specs.declared.scope.Block.{Block}
use Rattle.lp_plain.specs.declared.table.Table.{Table}
use Rattle.lp_plain.specs.Entries.{Around, AreAt, HasValues, IsAt, AreTodo, AreEntries, no_frame, a_frame, HeadsTo, IsOf, GrowsGoals, KeepsGoals, Reads}
use Rattle.lp_plain.specs.Instances.{AreValues}
use Rattle.lp_plain.specs.Scopes.{Blocks, Holds, outermost, inside, blocks_of}
use Rattle.lp_plain.specs.Tables.{shown, IsListOf}
use Rattle.lp_plain.specs.Within.{IsTableIn, IsTodoIn, StandsIn}
use Rattle.lp_plain.proofs.Frames.{frames_more}
use Rattle.lp_plain.proofs.Later.{goals_later, list_later}
use Rattle.lp_plain.proofs.Scoped.{holds_more}
use Rattle.lp_plain.proofs.Within.{all_at}

pub all_taken : {X : Type 0} (P : X → Type 0) (n : ℕ) (xs : List X) → All P xs → All P (take n xs)
all_taken P zero xs a = All-nil P
all_taken P (suc n) [] a = a
all_taken P (suc n) (x ∷ xs) a = All-cons P x (take n xs) (All-head P x xs a) (all_taken P n xs (All-tail P x xs a))

all_dropped : {X : Type 0} (P : X → Type 0) (n : ℕ) (xs : List X) → All P xs → All P (drop n xs)
all_dropped P zero xs a = a
all_dropped P (suc n) [] a = a
all_dropped P (suc n) (x ∷ xs) a = all_dropped P n xs (All-tail P x xs a)

-- the values of a scope are values
pub scope_all : (P : TermId → Type 0) (values : List TermId) (bs : List Block) (o : Option ℕ) (vs : List TermId) → All P values → Holds values bs o vs → All P vs
scope_all P values bs o vs a (outermost e z) = subst (All P) (sym z) (All-nil P)
scope_all P values bs o vs a (inside i k us e g l h z) =
    subst (All P) (sym z) (All-append P (take k.count (drop k.from values)) us (all_taken P k.count (drop k.from values)
    (all_dropped P k.from values a)) (scope_all P values (take i bs) k.around us a h))

-- terms of values stay
module _ (b d : Nodes) (x : Extends b d) where
  pub at_later : (vs : List TermId) (σ : ℕ → Term) → AreValues b vs → AreAt b vs σ → AreAt d vs σ
  at_later vs σ a h i v e = x.same_terms v.0 (all_at (λ (t : TermId). (t.0 < length b.terms) × LooseBelow 0 0 (tree b t.0)) vs i v e a).0 ∙ h i v e

  pub values_later : (vs : List TermId) → AreValues b vs → AreValues d vs
  values_later vs a =
      All-weaker (λ (t : TermId). (t.0 < length b.terms) × LooseBelow 0 0 (tree b t.0)) (λ (t : TermId). (t.0 < length d.terms) × LooseBelow 0 0 (tree d t.0))
      (λ t h. ((let m = x.more_terms in let l = h.0 in omega (arith, l, m)), subst (LooseBelow 0 0) (sym (x.same_terms t.0 h.0)) h.1)) vs a

  module _ (s z : Blocks) (a : AreValues b s.values) (kb : GoesOn s.blocks z.blocks) (kv : GoesOn s.values z.values) where
    pub scope_later : (o : Option ℕ) (σ : ℕ → Term) → HasValues b s o σ → HasValues d z o σ
    scope_later o σ h =
        let vs = h.0 in (
          vs,
          subst (λ bs. Holds z.values bs o vs) (sym kb.1) (subst (λ us. Holds us (s.blocks ++ kb.0) o vs) (sym kv.1) (holds_more s.values kv.0 s.blocks kb.0 o vs h.1)),
          at_later vs σ (scope_all (λ (t : TermId). (t.0 < length b.terms) × LooseBelow 0 0 (tree b t.0)) s.values s.blocks o vs a h.1) h.2,
        )

    pub place_later : (p : Place) (σ : ℕ → Term) → IsAt b s p σ → IsAt d z p σ
    place_later p σ h = scope_later p.values.scope σ h

    module _ (t : Table) (i : IsTableIn (length b.terms) t) where
      todo_later : (p : Place) (w : Todo) (gs : List Goal) → IsTodoIn (length b.terms) w → AreTodo b (shown t) s p w gs → AreTodo d (shown t) z p w gs
      todo_later p (Todo.Goals span) gs l h = (h.0, h.1, goals_later b d x t i span.from span.to h.0 h.2, place_later p h.1 h.3, h.4)
      todo_later p (Todo.Term u) gs l h = (h.0, subst (λ z. HeadsTo z h.0) (sym (x.same_terms u.0 l)) h.1, h.2)

      pub entries_later : (r : Around) {fs : List Frame} {o : Option ℕ} {es : List Entry} → All (λ f. IsTodoIn (length b.terms) f.todo) fs →
          AreEntries b (shown t) s r fs o es → AreEntries d (shown t) z r fs o es
      entries_later r l (no_frame e q) = no_frame e q
      entries_later r {fs} l (a_frame j f gs rest e g h w q) =
          a_frame j f gs rest e g (todo_later f.place f.todo gs (all_at (λ (f : Frame). IsTodoIn (length b.terms) f.todo) fs j f g l) h)
          (entries_later r (all_taken (λ (f : Frame). IsTodoIn (length b.terms) f.todo) j fs l) w) q

pub grows_then : (m n o : Machine) → GrowsGoals m n → GrowsGoals n o → GrowsGoals m o
grows_then m n o g h = record {
  bank = extends-trans m.bank n.bank o.bank g.bank h.bank;
  table = h.table ∙ g.table;
  frames = goes_on_then m.frames.items n.frames.items o.frames.items g.frames h.frames;
  blocks = goes_on_then m.scopes.blocks.items n.scopes.blocks.items o.scopes.blocks.items g.blocks h.blocks;
  values = goes_on_then m.scopes.values.items n.scopes.values.items o.scopes.values.items g.values h.values;
}

pub grows_kept : (m n : Machine) → KeepsGoals m n → GrowsGoals m n
grows_kept m n k =
    let s = k.known.scopes in
    record {
      bank = subst (λ b. Extends m.bank b) (sym k.known.bank) (extends_same m.bank);
      table = k.known.table;
      frames = k.frames;
      blocks = subst (λ z. GoesOn m.scopes.blocks.items z.blocks.items) (sym s) (goes_on_same m.scopes.blocks.items);
      values = subst (λ z. GoesOn m.scopes.values.items z.values.items) (sym s) (goes_on_same m.scopes.values.items);
    }

-- in a search
module _ (m n : Machine) (i : StandsIn m) (g : GrowsGoals m n) where
  pub reads_later : (a : Around) (o : Option ℕ) (es : List Entry) → Reads m a o es → Reads n a o es
  reads_later a o es r =
      subst (λ t. AreEntries n.bank (shown t) (blocks_of n.scopes) a n.frames.items o es) (sym g.table)
      (subst (λ fs. AreEntries n.bank (shown m.table) (blocks_of n.scopes) a fs o es) (sym g.frames.1)
      (frames_more n.bank (shown m.table) (blocks_of n.scopes) a m.frames.items g.frames.0
      (entries_later m.bank n.bank g.bank (blocks_of m.scopes) (blocks_of n.scopes) i.values g.blocks g.values m.table i.table a i.frames r)))

  pub of_later : (p : Place) (list : ℕ) (hs : Goals) (σ : ℕ → Term) → IsOf m p list hs σ → IsOf n p list hs σ
  of_later p list hs σ h = (
    subst (λ t. IsListOf n.bank t list hs) (sym g.table) (list_later m.bank n.bank g.bank m.table i.table list hs h.0),
    place_later m.bank n.bank g.bank (blocks_of m.scopes) (blocks_of n.scopes) i.values g.blocks g.values p σ h.1,
  )

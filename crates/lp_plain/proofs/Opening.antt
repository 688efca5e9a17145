-- Quantified goals that are opened read as the definition opens them.
use Rattle.std.proofs.Common.{◌≡◌, ℕ, zero, suc, ◌<◌, List, [], ◌∷◌, ◌++◌, length, refl, sym, ap, ◌∙◌, subst, arith, append-nil, add-one, Option}
use Rattle.std.specs.Prelude.{All}
use Rattle.std.proofs.lemmas.List.Elements.{All-weaker}
use Rattle.lp_lemmas.proofs.Elements.{All_pushed}
use Rattle.lp_calculus.specs.Types.{Ty}
use Rattle.lp_calculus.specs.Term.{Term, atom, eigen, logic}
use Rattle.lp_term.specs.Nodes.{Nodes, Extends, tree}
use Rattle.lp_term.specs.Spine.{LooseBelow}
use Rattle.lp_term.specs.declared.node.TermId.{TermId}
use Rattle.lp_term.proofs.Trees.{extends_same}
use Rattle.lp_model.specs.Branch.{Entry, Branch, entries}
use Rattle.lp_model.specs.Flat.{Written, Goal, Goals, Clause, Exists, Forall, goal_list}
use Rattle.lp_model.specs.Index.{lifted}
use Rattle.lp_model.specs.Search.{opened, look_goal}
use Rattle.lp_plain.specs.declared.frame.Frame.{Frame}
use Rattle.lp_plain.specs.declared.frame.Place.{Place}
use Rattle.lp_plain.specs.declared.frame.Todo.{Todo}
use Rattle.lp_plain.specs.declared.machine.Machine.{Machine}
use Rattle.lp_plain.specs.declared.types.Renewal.{Renewal}
use Rattle.lp_plain.specs.Apart.{apart}
use Rattle.lp_plain.specs.Assuming.{KeepsAssumed}
use Rattle.lp_plain.specs.Entries.{Around, AreAt, ArePartsOf, IsBehind, IsListAt, IsOf, GrowsGoals, KeepsGoals, Reads, entry_at, in_scope, placed}
use Rattle.lp_plain.specs.Opening.{cons, IsNewVariable, IsRaised, IsBoundBy}
use Rattle.lp_plain.specs.Scopes.{Holds}
use Rattle.lp_plain.specs.Instances.{AreValues}
use Rattle.lp_plain.specs.Within.{IsTableIn, IsTodoIn, StandsIn}
use Rattle.lp_plain.proofs.Growing.{grows_then, grows_kept, of_later, reads_later, values_later}
use Rattle.lp_plain.proofs.Later.{table_later}
use Rattle.lp_plain.proofs.Mapped.{opened_more}

-- the bank alone grows

pub bank_grows : (m n : Machine) → Extends m.bank n.bank → n.table ≡ m.table → n.frames ≡ m.frames → n.scopes ≡ m.scopes → GrowsGoals m n
bank_grows m n x t f s = record {
  bank = x;
  table = t;
  frames = ([], ap (λ v. v.items) f ∙ sym (append-nil m.frames.items));
  blocks = ([], ap (λ v. v.blocks.items) s ∙ sym (append-nil m.scopes.blocks.items));
  values = ([], ap (λ v. v.values.items) s ∙ sym (append-nil m.scopes.values.items));
}

pub bank_stands : (m n : Machine) → Extends m.bank n.bank → n.table ≡ m.table → n.frames ≡ m.frames → n.scopes ≡ m.scopes → StandsIn m → StandsIn n
bank_stands m n x t f s i = record {
  table = subst (IsTableIn (length n.bank.terms)) (sym t) (table_later m.bank n.bank x m.table i.table);
  values = subst (λ z. AreValues n.bank z.values.items) (sym s) (values_later m.bank n.bank x m.scopes.values.items i.values);
  frames = subst (λ v. All (λ (f : Frame). IsTodoIn (length n.bank.terms) f.todo) v.items) (sym f)
      (All-weaker (λ (f : Frame). IsTodoIn (length m.bank.terms) f.todo) (λ (f : Frame). IsTodoIn (length n.bank.terms) f.todo) (λ f h. todo f.todo h) m.frames.items i.frames);
}
  where
    todo : (w : Todo) → IsTodoIn (length m.bank.terms) w → IsTodoIn (length n.bank.terms) w
    todo (Todo.Goals s) h = h
    todo (Todo.Term u) h = let k = x.more_terms in omega (arith, h, k)

-- a note changes nothing of this

pub variable_noted : (m n o : Machine) (level : ℕ) (t : TermId) → IsNewVariable m n level t → KeepsGoals n o → o.frames ≡ n.frames → KeepsAssumed n o
    → o.denied ≡ n.denied → o.choices.items ≡ n.choices.items → o.branch ≡ n.branch → IsNewVariable m o level t
variable_noted m n o level t v k f a e c b = record {
  grows = grows_then m n o v.grows (grows_kept n o k);
  frames = f ∙ v.frames;
  assumed = record { assumptions = a.assumptions ∙ v.assumed.assumptions; newest = a.newest ∙ v.assumed.newest };
  standings = k.known.standings ∙ v.standings;
  index = k.known.index ∙ v.index;
  denied = e ∙ v.denied;
  choices = c ∙ v.choices;
  next = ap (λ z. z.next) b ∙ v.next;
  next_type = ap (λ z. z.next_type) b ∙ v.next_type;
  within = subst (λ z. t.0 < length z.terms) (sym k.known.bank) v.within;
  variable = ap (λ z. tree z t.0) k.known.bank ∙ v.variable;
}

pub same_stands : (m n : Machine) → KeepsGoals m n → n.frames ≡ m.frames → StandsIn m → StandsIn n
same_stands m n k f i = bank_stands m n (subst (λ b. Extends m.bank b) (sym k.known.bank) (extends_same m.bank)) k.known.table f k.known.scopes i

-- a scope is opened

pub values_more : (b : Nodes) (vs : List TermId) (v : TermId) (σ : ℕ → Term) → AreAt b vs σ → AreAt b (v ∷ vs) (cons (tree b v.0) σ)
values_more b vs v σ h zero w e = let q : v ≡ w = cc in ap (λ z. tree b z.0) (sym q)
values_more b vs v σ h (suc i) w e = h i w e

pub value_stands : (m n : Machine) (v : TermId) → n.bank ≡ m.bank → n.table ≡ m.table → n.frames ≡ m.frames → n.scopes.values.items ≡
    m.scopes.values.items ++ v ∷ [] → v.0 < length m.bank.terms → LooseBelow 0 0 (tree m.bank v.0) → StandsIn m → StandsIn n
value_stands m n v b t f s l k i = record {
  table = subst (λ z. IsTableIn (length z.terms) n.table) (sym b) (subst (IsTableIn (length m.bank.terms)) (sym t) i.table);
  values = subst (λ z. AreValues z n.scopes.values.items) (sym b) (All_pushed (λ (t : TermId). (t.0 < length m.bank.terms) × LooseBelow 0 0
      (tree m.bank t.0)) n.scopes.values.items m.scopes.values.items v s i.values (l, k));
  frames = subst (λ z. All (λ (f : Frame). IsTodoIn (length z.terms) f.todo) n.frames.items) (sym b) (subst (λ v. All (λ (f : Frame). IsTodoIn (length m.bank.terms) f.todo) v.items) (sym f) i.frames);
}

-- goals inside the scope

inner_entries : (a : Around) (p : Place) (x u : Term) (σ : ℕ → Term) (hs : Goals) (r : Renewal) (A : List Clause) (w : Written) (l k : ℕ) →
    p.values.types ≡ r → a.assumed p.assumed ≡ A → a.written p.standing ≡ w → p.level ≡ l → a.mark p.mark ≡ k →
    x ≡ u → placed a p (goal_list (in_scope (cons x σ) p.values.types hs)) ≡ entries (opened u (in_scope (lifted σ) r hs)) A w l k
inner_entries a p x u σ hs r A w l k t e f g h y = (λ i. entries (goal_list (in_scope (cons (y i) σ) (t i) hs)) (e i) (f i) (g i) (h i)) ∙ ap (λ gs. entries gs A w l k) (sym (opened_more u σ r hs))

module _ (m n o q : Machine) (p above inner : Place) (t : TermId) (list : ℕ) (behind front : Option ℕ) (a : Around) (b : Branch) (hs : Goals)
    (σ : ℕ → Term) (i : StandsIn m) (j : StandsIn n) (g : GrowsGoals m n) (w : IsBoundBy n o above inner t)
    (reads : (a : Around) (gs : List Goal) (es : List Entry) → IsListAt o inner list gs → Reads o a behind es → Reads q a front
    (placed a inner gs ++ es)) (of : IsOf m p list hs σ) (r : Reads m a behind b.goals)
    (v : above.values ≡ p.values) where
  later_list : IsListAt o inner list (goal_list (in_scope (cons (tree n.bank t.0) σ) inner.values.types hs))
  later_list =
      let z = of_later m n i g p list hs σ of in
      let y = of_later n o j w.grows p list hs σ z in
      (hs, cons (tree n.bank t.0) σ, y.0, w.opened σ (subst (λ x. (vs : List TermId) × Holds n.scopes.values.items n.scopes.blocks.items x.scope vs × AreAt n.bank vs σ) (sym v) z.1), refl)

  pub reads_opened : (u : Term) (A : List Clause) (wr : Written) (l k : ℕ) → tree n.bank t.0 ≡ u → a.assumed inner.assumed ≡ A → a.written
      inner.standing ≡ wr → inner.level ≡ l → a.mark inner.mark ≡ k →
      Reads q a front (entries (opened u (in_scope (lifted σ) p.values.types hs)) A wr l k ++ b.goals)
  reads_opened u A wr l k e ea ew el ek =
      subst (λ es. Reads q a front (es ++ b.goals)) (inner_entries a inner (tree n.bank t.0) u σ hs p.values.types A wr l k (w.types ∙ ap (λ x. x.types) v) ea ew el ek e)
      (reads a (goal_list (in_scope (cons (tree n.bank t.0) σ) inner.values.types hs)) b.goals later_list (reads_later n o j w.grows a behind b.goals (reads_later m n i g a behind b.goals r)))

-- the definition's tasks

pub some_opened : (m n o q : Machine) (p inner : Place) (t : TermId) (list : ℕ) (behind front : Option ℕ) → (StandsIn m → StandsIn n) → IsNewVariable m n p.level t → IsBoundBy n o p inner t →
    ((a : Around) (gs : List Goal) (es : List Entry) → IsListAt o inner list gs → Reads o a behind es → Reads q a front (placed a inner gs ++ es)) →
    q.branch.goals ≡ front → q.branch.next ≡ o.branch.next → q.branch.next_type ≡ o.branch.next_type → q.choices.items ≡ o.choices.items →
    (a : Around) (hs : Goals) (σ : ℕ → Term) (b : Branch) → StandsIn m → IsOf m p list hs σ → IsBehind m a behind b → (u k height : ℕ) (P : List Clause) (T : Ty) →
    ArePartsOf m q a (look_goal u k P height (entry_at a p (Exists T (in_scope (lifted σ) p.values.types hs))) b (Exists T (in_scope (lifted σ) p.values.types hs)))
some_opened m n o q p inner t list behind front st v w reads eg en et ec a hs σ b i of r u k height P T = (
  record {
    goals =
        subst (λ x. Reads q a x (entries (opened (atom (logic b.next p.level)) (in_scope (lifted σ) p.values.types hs)) (a.assumed p.assumed)
        (a.written p.standing) p.level (a.mark p.mark) ++ b.goals)) (sym eg)
        (reads_opened m n o q p p inner t list behind front a b hs σ i (st i) v.grows w reads of r.goals refl (atom (logic b.next p.level))
        (a.assumed p.assumed) (a.written p.standing) p.level (a.mark p.mark)
        (v.variable ∙ ap (λ x. atom (logic x p.level)) r.next) (ap a.assumed w.assumed) (ap a.written w.standing) w.level (ap a.mark w.mark));
    next = en ∙ ap (λ z. z.next) w.branch ∙ v.next ∙ add-one m.branch.next ∙ ap suc r.next;
    next_type = et ∙ ap (λ z. z.next_type) w.branch ∙ v.next_type ∙ r.next_type;
  },
  ec ∙ w.choices ∙ v.choices,
)

pub all_opened : (m n o q : Machine) (p above inner : Place) (t : TermId) (list : ℕ) (behind front : Option ℕ) → (StandsIn m → StandsIn n) → IsRaised m n p above t → IsBoundBy n o above inner t →
    ((a : Around) (gs : List Goal) (es : List Entry) → IsListAt o inner list gs → Reads o a behind es → Reads q a front (placed a inner gs ++ es)) →
    q.branch.goals ≡ front → q.branch.next ≡ o.branch.next → q.branch.next_type ≡ o.branch.next_type → q.choices.items ≡ o.choices.items →
    (a : Around) (hs : Goals) (σ : ℕ → Term) (b : Branch) → StandsIn m → IsOf m p list hs σ → IsBehind m a behind b → (u k height : ℕ) (P : List Clause) (T : Ty) →
    ArePartsOf m q a (look_goal u k P height (entry_at a p (Forall T (in_scope (lifted σ) p.values.types hs))) b (Forall T (in_scope (lifted σ) p.values.types hs)))
all_opened m n o q p above inner t list behind front st v w reads eg en et ec a hs σ b i of r u k height P T = (
  record {
    goals =
        subst (λ x. Reads q a x (entries (opened (atom (eigen (suc p.level))) (in_scope (lifted σ) p.values.types hs)) (a.assumed p.assumed)
        (a.written p.standing) (suc p.level) (a.mark p.mark) ++ b.goals)) (sym eg)
        (reads_opened m n o q p above inner t list behind front a b hs σ i (st i) v.grows w reads of r.goals v.values (atom (eigen (suc p.level)))
        (a.assumed p.assumed) (a.written p.standing) (suc p.level) (a.mark p.mark) v.eigen_is
        (ap a.assumed (w.assumed ∙ v.assumed)) (ap a.written (w.standing ∙ v.standing)) (w.level ∙ v.level) (ap a.mark (w.mark ∙ v.mark)));
    next = en ∙ ap (λ z. z.next) (w.branch ∙ v.branch) ∙ r.next;
    next_type = et ∙ ap (λ z. z.next_type) (w.branch ∙ v.branch) ∙ r.next_type;
  },
  ec ∙ w.choices ∙ v.choices,
)

-- once it was counted
abbrev pub TakesQuantified : (Ty → Goals → Goal) → (old new : Machine) → Place → (list : ℕ) → (behind : Option ℕ) → Type 0
TakesQuantified F m n p l o = (a : Around) (hs : Goals) (σ : ℕ → Term) (b : Branch) → StandsIn m → IsOf m p l hs σ → IsBehind m a o b → (u k height : ℕ) (P : List Clause) (T : Ty) →
    ArePartsOf m n a (look_goal u k P height (entry_at a p (F T (in_scope (lifted σ) p.values.types hs))) b (F T (in_scope (lifted σ) p.values.types hs)))

pub quantified_apart : (F : Ty → Goals → Goal) (m c n : Machine) (p : Place) (l : ℕ) (o : Option ℕ) → c ≡ apart m → TakesQuantified F c n p l o → TakesQuantified F m n p l o
quantified_apart F m c n p l o e t = λ a hs σ b i x w u k height P T.
    let s : TakesQuantified F (apart m) n p l o = subst (λ z. TakesQuantified F z n p l o) e t in
    s a hs σ b (record { table = i.table; values = i.values; frames = i.frames }) x (record { goals = w.goals; next = w.next; next_type = w.next_type }) u k height P T

-- Constants get the types that are written, while sentences are taken up.
use Rattle.std.proofs.Common.{◌≡◌, ℕ, ◌+◌, ◌<◌, List, [], ◌∷◌, ◌++◌, length, map, get_or, take, append_assoc, refl, sym, ap, subst, ◌∙◌, arith, true, true≢false, Option, Some, None, Result, Ok, Err}
use Rattle.std.specs.Prelude.{is_some, All, IfSome, OnOk}
use Rattle.std.proofs.lemmas.List.{append-nil}
use Rattle.std.proofs.lemmas.List.Elements.{All-push, All-nil, All-cons, All-head, All-more, All-append, All-map}
use Rattle.std.proofs.lemmas.Option.{same_Some}
use Rattle.lp_base.specs.declared.place.Spot.{Spot}
use Rattle.lp_calculus.specs.Types.{Ty}
use Rattle.lp_term.specs.Nodes.{Nodes, Extends, type_tree}
use Rattle.lp_term.specs.declared.node.TypeId.{TypeId}
use Rattle.lp_term.proofs.Trees.{extends_same, extends-trans}
use Rattle.lp_syntax.specs.declared.text.Declaration.{Declaration}
use Rattle.lp_syntax.specs.declared.text.RawType.{RawType}
use Rattle.lp_syntax.specs.declared.text.RawTerm.{RawTerm}
use Rattle.lp_syntax.specs.declared.text.Sentence.{Sentence}
use Rattle.lp_syntax.specs.declared.text.Sentence.TheVariants.{Declares, Says}
use Rattle.lp_sig.specs.Abbreviations.{abbreviation_names, uses_in}
use Rattle.lp_sig.specs.Constants.{Written, written_in, IsTyped, IsSchemeOf, AreTyped, AreUsesSettled}
use Rattle.lp_sig.specs.AsWritten.{typed_locals, typed_by, typed_in}
use Rattle.lp_sig.specs.Holding.{HoldsBodies}
use Rattle.lp_sig.specs.Knowing.{Knows}
use Rattle.lp_sig.specs.Modules.{declarations, local_names, constant_names_by, constant_names_in}
use Rattle.lp_sig.specs.Pieces.{spelled}
use Rattle.lp_sig.specs.Rows.{Row}
use Rattle.lp_sig.specs.Said.{Said, each}
use Rattle.lp_sig.specs.Schemes.{first_variables}
use Rattle.lp_sig.specs.Sighted.{HasTree, AreCounted, GrowsBehind, PutsBehind}
use Rattle.lp_sig.specs.Types.{Definition}
use Rattle.lp_sig.specs.Worded.{HasWords}
use Rattle.lp_sig.specs.inner.Reading.{CanDeclare, AreDeclaredAs, HasWritten, AreSettled, IsReading, Reads, ReadsOn}
use Rattle.lp_sig.specs.declared.bodies.Bodies.{Bodies}
use Rattle.lp_sig.specs.declared.constants.Constant.{Constant}
use Rattle.lp_sig.specs.declared.constants.Constants.{Constants}
use Rattle.lp_sig.specs.declared.constants.DeclaredType.{DeclaredType}
use Rattle.lp_sig.specs.declared.making.Making.{Making}
use Rattle.lp_sig.specs.declared.names.Names.{Names}
use Rattle.lp_sig.proofs.KnownConstants.{tree_later, counted_later, counted_put, tree_put}
use Rattle.lp_sig.proofs.OrderedSignatures.{same_count}
use Rattle.lp_sig.proofs.Typing.{bodies_stay}
use Rattle.lp_sig.proofs.UsesSettled.{use_inside}

-- three facts of a result
pub on_ok_three : {T E P Q R S : Type 0} (r : Result T E) → OnOk r P → OnOk r Q → OnOk r R → (P → Q → R → S) → OnOk r S
on_ok_three (Ok x) p q r f = f p q r
on_ok_three (Err e) p q r f = tt

-- a constant with a type behind others
typed_put : (old new : Constants) (name : List ℕ) (d : DeclaredType) → PutsBehind old new name d → AreTyped old → AreTyped new
typed_put old new name d (k, n, is, e) all = subst (All (λ c. is_some c.declared ≡ true)) (sym e) (All-push (λ c. is_some c.declared ≡ true) old.constants.items k all (ap is_some is))

-- a name that is new, and one that has this type
pub declared_new : (b now : Nodes) (old new : Constants) (text : List ℕ) (s : Spot) (word : List ℕ) (words : List (List ℕ)) (d : DeclaredType) → Extends b now → word ≡ spelled text s → PutsBehind old new word d → CanDeclare b old words d →
    AreDeclaredAs now new text (s ∷ []) d
declared_new b now old new text s word words d x same put can =
    let l = can.inside in
    let m = x.more_types in
    let inside : d.scheme.0 < length now.types = omega (arith, l, m) in
    let count = can.count ∙ ap (λ T. length (first_variables T)) (sym (x.same_types d.scheme.0 l)) in
    record {
      counted = counted_put now old new word d put (inside, count) (counted_later b now old x can.counted);
      typed = typed_put old new word d put can.typed;
      trees = All-cons (λ s. HasTree now new (spelled text s) (type_tree now d.scheme.0)) s [] (subst (λ w. HasTree now new w (type_tree now d.scheme.0)) same (tree_put now old new word d put inside count))
          (All-nil (λ s. HasTree now new (spelled text s) (type_tree now d.scheme.0)));
    }

pub declared_again : (b now : Nodes) (c : Constants) (text : List ℕ) (s : Spot) (word : List ℕ) (words : List (List ℕ)) (known : TypeId) (new d : DeclaredType) (declared : Option DeclaredType) → Extends b now → word ≡ spelled text s → HasTree now c word (type_tree now known.0) →
    known.0 ≡ new.scheme.0 → declared ≡ Some new → declared ≡ Some d → CanDeclare b c words d → AreDeclaredAs now c text (s ∷ []) d
declared_again b now c text s word words known new d declared x same tree equal is e can =
    let one : new ≡ d = same_Some new d (sym is ∙ e) in
    record {
      counted = counted_later b now c x can.counted;
      typed = can.typed;
      trees = All-cons (λ s. HasTree now c (spelled text s) (type_tree now d.scheme.0)) s []
          (subst (λ d. HasTree now c (spelled text s) (type_tree now d.scheme.0)) one (subst (λ n. HasTree now c (spelled text s) (type_tree now n)) equal (subst (λ w. HasTree now c w (type_tree now known.0)) same tree)))
          (All-nil (λ s. HasTree now c (spelled text s) (type_tree now d.scheme.0)));
    }

pub never_open : (c : Constants) (place : ℕ) (k : Constant) → place < length c.constants.items → k ≡ get_or c.constants.items place k → k.declared ≡ None → AreTyped c → ⊥
never_open c place k l at none all = absurd (true≢false (sym (all place k l) ∙ ap (λ k. is_some k.declared) (sym at) ∙ ap is_some none))

-- one more name, and a type while more is known
pub declared_more : (here now : Nodes) (mid new : Constants) (text : List ℕ) (names : List Spot) (i : ℕ) (s : Spot) (d : DeclaredType) → i < length names → Extends here now → GrowsBehind mid new → d.scheme.0 < length here.types →
    AreDeclaredAs here mid text (take i names) d → AreDeclaredAs now new text (get_or names i s ∷ []) d → AreDeclaredAs now new text (take (i + 1) names) d
declared_more here now mid new text names i s d l x g inside a b = record {
  counted = b.counted;
  typed = b.typed;
  trees = All-more (λ s. HasTree now new (spelled text s) (type_tree now d.scheme.0)) names i s l
      (λ k e h. subst (HasTree now new (spelled text (get_or (take i names) k e))) (sym (x.same_types d.scheme.0 inside)) (tree_later here now mid new (spelled text (get_or (take i names) k e)) (type_tree here d.scheme.0) x g (a.trees k e h)))
      (All-head (λ s. HasTree now new (spelled text s) (type_tree now d.scheme.0)) (get_or names i s) [] b.trees);
}

pub can_again : (first here : Nodes) (c mid : Constants) (text : List ℕ) (names : List Spot) (words more : List (List ℕ)) (d : DeclaredType) → Extends first here → CanDeclare first c words d → AreDeclaredAs here mid text names d → HasWords mid more → CanDeclare here mid more d
can_again first here c mid text names words more d x can a met =
    let l = can.inside in
    let m = x.more_types in
    record {
      met = met;
      counted = a.counted;
      typed = a.typed;
      inside = omega (arith, l, m);
      count = can.count ∙ ap (λ T. length (first_variables T)) (sym (x.same_types d.scheme.0 l));
    }

pub none_declared : (b : Nodes) (c : Constants) (text : List ℕ) (words : List (List ℕ)) (d : DeclaredType) → CanDeclare b c words d → AreDeclaredAs b c text [] d
none_declared b c text words d can = record { counted = can.counted; typed = can.typed; trees = All-nil (λ s. HasTree b c (spelled text s) (type_tree b d.scheme.0)) }

pub inside_later : (b now : Nodes) (c : Constants) (words : List (List ℕ)) (d : DeclaredType) → Extends b now → CanDeclare b c words d → d.scheme.0 < length now.types
inside_later b now c words d x can = let l = can.inside in let m = x.more_types in omega (arith, l, m)

-- a scheme has as many variables as is said
pub scheme_count : (said : List (Row Said)) (defs : List (Row Definition)) (w : Written) (n : ℕ) (t : Ty) → IsSchemeOf said defs w n t → n ≡ length (first_variables t)
scheme_count said defs w n t h = h.counted ∙ sym (same_count h.replaced) ∙ ap (λ T. length (first_variables T)) (sym h.numbered)

-- names with a type that is written
module _ (names : Names) (old mid new : Bodies) (c d : Constants) (text : List ℕ) (raw : RawType) (spots : List Spot) (declared : Option DeclaredType) (x : Extends old.types.bank mid.types.bank) (y : Extends mid.types.bank new.types.bank)
    (one : mid.bodies ≡ old.bodies) (two : new.bodies ≡ mid.bodies) where
  pub reads_typed : ((said : List (Row Said)) → Knows names said → AreUsesSettled old.bodies.items (uses_in (abbreviation_names said) text raw.nodes.items) → is_some declared ≡ true) →
      ((said : List (Row Said)) (defs : List (Row Definition)) → Knows names said → HoldsBodies old.types.bank old.bodies.items said defs → IfSome declared (IsTyped mid.types.bank said defs (written_in text raw))) →
      ((words : List (List ℕ)) (t : DeclaredType) → declared ≡ Some t → CanDeclare mid.types.bank c words t → AreDeclaredAs new.types.bank d text spots t) →
      ((words : List (List ℕ)) → HasWords c words → HasWords d (words ++ map (λ s. spelled text s) spots)) →
      Reads names old c new d (each text (written_in text raw) spots) (map (λ s. spelled text s) spots)
  reads_typed settled typed trees met said defs words r =
      by declared refl (settled said r.knows (λ w h. r.settled w.1 (use_inside (abbreviation_names said) text raw.nodes.items w h))) (typed said defs r.knows r.holds)
    where
      kept : Extends old.types.bank new.types.bank
      kept = extends-trans old.types.bank mid.types.bank new.types.bank x y

      items : new.bodies.items ≡ old.bodies.items
      items = ap (λ v. v.items) (two ∙ one)

      by : (o : Option DeclaredType) → declared ≡ o → is_some o ≡ true → IfSome o (IsTyped mid.types.bank said defs (written_in text raw)) →
          IsReading names new d said defs (words ++ map (λ s. spelled text s) spots) × All (HasWritten new.types.bank d said defs) (each text (written_in text raw) spots)
      by None is some t = absurd (true≢false (sym some))
      by (Some t) is some h =
          let can : CanDeclare mid.types.bank c words t = record {
            met = r.met;
            counted = counted_later old.types.bank mid.types.bank c x r.counted;
            typed = r.typed;
            inside = h.inside;
            count = scheme_count said defs (written_in text raw) t.type_vars (type_tree mid.types.bank t.scheme.0) h.scheme;
          } in
          let done = trees words t is can in (
            record {
              knows = r.knows;
              holds = bodies_stay old.types.bank new.types.bank old.bodies.items new.bodies.items said defs kept items r.holds;
              settled = subst (λ bs. AreSettled bs said) (sym items) r.settled;
              met = met words r.met;
              counted = done.counted;
              typed = done.typed;
            },
            All-map (HasWritten new.types.bank d said defs) (λ s. (spelled text s, written_in text raw)) spots (λ k e l. record {
              count = t.type_vars;
              tree = type_tree new.types.bank t.scheme.0;
              scheme = subst (IsSchemeOf said defs (written_in text raw) t.type_vars) (sym (y.same_types t.scheme.0 h.inside)) h.scheme;
              has = done.trees k e l;
            }),
          )

-- nothing is declared
pub reads_none : (names : Names) (old new : Bodies) (c d : Constants) → Extends old.types.bank new.types.bank → new.bodies ≡ old.bodies → d ≡ c → Reads names old c new d [] []
reads_none names old new c d x bodies same said defs words r =
    let items : new.bodies.items ≡ old.bodies.items = ap (λ v. v.items) bodies in (
      record {
        knows = r.knows;
        holds = bodies_stay old.types.bank new.types.bank old.bodies.items new.bodies.items said defs x items r.holds;
        settled = subst (λ bs. AreSettled bs said) (sym items) r.settled;
        met = subst (λ c. HasWords c (words ++ [])) (sym same) (subst (HasWords c) (sym (append-nil words)) r.met);
        counted = subst (AreCounted new.types.bank) (sym same) (counted_later old.types.bank new.types.bank c x r.counted);
        typed = subst AreTyped (sym same) r.typed;
      },
      All-nil (HasWritten new.types.bank d said defs),
    )

pub reads_same : (m : Making) → ReadsOn m m [] []
reads_same m = reads_none m.names m.bodies m.bodies m.constants m.constants (extends_same m.bodies.types.bank) refl refl

-- one behind the other
pub reads_then : (names : Names) (b1 b2 b3 : Bodies) (c1 c2 c3 : Constants) (rows others : List (Row Written)) (more behind : List (List ℕ)) → Extends b2.types.bank b3.types.bank → GrowsBehind c2 c3 →
    Reads names b1 c1 b2 c2 rows more → Reads names b2 c2 b3 c3 others behind → Reads names b1 c1 b3 c3 (rows ++ others) (more ++ behind)
reads_then names b1 b2 b3 c1 c2 c3 rows others more behind x g f h said defs words r =
    let (r2, first) = f said defs words r in
    let (r3, second) = h said defs (words ++ more) r2 in (
      subst (IsReading names b3 c3 said defs) (append_assoc words more behind) r3,
      All-append (HasWritten b3.types.bank c3 said defs) rows others (λ k e l. later (get_or rows k e) (first k e l)) second,
    )
  where
    later : (row : Row Written) → HasWritten b2.types.bank c2 said defs row → HasWritten b3.types.bank c3 said defs row
    later row w = record { count = w.count; tree = w.tree; scheme = w.scheme; has = tree_later b2.types.bank b3.types.bank c2 c3 row.0 w.tree x g w.has }

pub reads_so : (a b c : Making) (rows others : List (Row Written)) (more behind : List (List ℕ)) → b.names ≡ a.names → Extends b.bodies.types.bank c.bodies.types.bank → GrowsBehind b.constants c.constants →
    ReadsOn a b rows more → ReadsOn b c others behind → ReadsOn a c (rows ++ others) (more ++ behind)
reads_so a b c rows others more behind same x g f h =
    reads_then a.names a.bodies b.bodies c.bodies a.constants b.constants c.constants rows others more behind x g f (subst (λ n. Reads n b.bodies b.constants c.bodies c.constants others behind) same h)

-- of a declaration, of local constants and of a sentence
pub its_types : (old new : Making) (text : List ℕ) (l d : Declaration) (rows : List (Row Written)) (more : List (List ℕ)) → l ≡ d → rows ≡ typed_by text d → more ≡ constant_names_by text d → ReadsOn old new rows more → ReadsOn old new (typed_by text l) (constant_names_by text l)
its_types old new text l d rows more is f g h =
    subst (λ l. ReadsOn old new (typed_by text l) (constant_names_by text l)) (sym is) (subst (λ r. ReadsOn old new r (constant_names_by text d)) f (subst (ReadsOn old new rows) g h))

pub local_types : (old new : Making) (text : List ℕ) (names : List Spot) (o p : Option RawType) → o ≡ p → ReadsOn old new (typed_locals text names p) (local_names text names p) → ReadsOn old new (typed_locals text names o) (local_names text names o)
local_types old new text names o p is h = subst (λ o. ReadsOn old new (typed_locals text names o) (local_names text names o)) (sym is) h

pub sentence_types : (old new : Making) (text : List ℕ) (l : Sentence) (d : Declaration) → l ≡ Declares d → ReadsOn old new (typed_by text d) (constant_names_by text d) → ReadsOn old new (typed_in text (declarations (l ∷ []))) (constant_names_in text (declarations (l ∷ [])))
sentence_types old new text l d is h =
    subst (λ l. ReadsOn old new (typed_in text (declarations (l ∷ []))) (constant_names_in text (declarations (l ∷ [])))) (sym is)
    (subst (λ r. ReadsOn old new r (constant_names_by text d ++ [])) (sym (append-nil (typed_by text d))) (subst (ReadsOn old new (typed_by text d)) (sym (append-nil (constant_names_by text d))) h))

pub no_types_said : (m : Making) (text : List ℕ) (l : Sentence) (raw : RawTerm) → l ≡ Says raw → ReadsOn m m (typed_in text (declarations (l ∷ []))) (constant_names_in text (declarations (l ∷ [])))
no_types_said m text l raw is = subst (λ l. ReadsOn m m (typed_in text (declarations (l ∷ []))) (constant_names_in text (declarations (l ∷ [])))) (sym is) (reads_same m)

pub typed_append : (text : List ℕ) (xs ys : List Declaration) → typed_in text (xs ++ ys) ≡ typed_in text xs ++ typed_in text ys
typed_append text [] ys = refl
typed_append text (x ∷ xs) ys = ap (λ z. typed_by text x ++ z) (typed_append text xs ys) ∙ sym (append_assoc (typed_by text x) (typed_in text xs) (typed_in text ys))

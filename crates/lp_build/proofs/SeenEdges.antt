-- What an object exports and the one above it has is a name of the module above, where nothing differs on any edge of the tree of copies.
use Rattle.std.proofs.Common.{◌≡◌, ◌∙◌, [], ◌+◌, ◌-◌, ◌<◌, ℕ, true, List, Option, None, Some, length, map, get_or, ap, refl, sym, subst, arith}
use Rattle.std.specs.Prelude.{All, slice_get, option_map, option_and_then}
use Rattle.std.proofs.lemmas.Bool.{lt-ltb}
use Rattle.std.proofs.lemmas.List.Elements.{All-weaker}
use Rattle.std.proofs.lemmas.Option.{get_or_from_slice_get}
use Rattle.lp_lemmas.proofs.Lists.{get_below, get_map}
use Rattle.lp_places.specs.Places as places
use Rattle.lp_code.specs.declared.object.Object.{Object}
use Rattle.lp_code.specs.declared.object.ObjectKind.{ObjectKind}
use Rattle.lp_code.specs.declared.object.ObjectConstant.{ObjectConstant}
use Rattle.lp_link.specs.Differences.{IsSameAbove, IsOtherAbove}
use Rattle.lp_link.specs.Refusals.{AreSame}
use Rattle.lp_link.specs.Uses.{kind_names, constant_names}
use Rattle.lp_module.specs.Program.{kind_at, constant_at}
use Rattle.lp_module.specs.declared.module.Module.{Module}
use Rattle.lp_build.specs.Compiled.{ArePaired}
use Rattle.lp_build.proofs.SameCopies.{IsConstantSeen, IsKindSeen, IsSeenEdge, IsSeenIn, IsShaped, constant_list, constant_names_same, exported_constants, exported_kinds, kind_list, kind_names_same, paired_at, range_length}

-- the names of a module's signature are found in it
pub record Finds (a : Module) : Type 0 where
  pub kinds : (w : List ℕ) (p : ℕ) → places.first_place w (kind_list a) ≡ Some p → IsKindSeen a w
  pub constants : (w : List ℕ) (p : ℕ) → places.first_place w (constant_list a) ≡ Some p → IsConstantSeen a w

module _ (m a : Module) (o oa : Object) (s : IsShaped m o) (t : IsShaped a oa) (finds : Finds a) (same : IsSameAbove o oa) where
  kind_there : (i : ℕ) → i < length m.signature.kinds.items - length m.hidden_kinds.items → IsKindSeen a (kind_at m i)
  kind_there i l =
      let fits = s.kinds_fit in
      let many = s.names.kinds.many in
      let r = ap length s.hidden_kinds ∙ range_length (8 + s.own.kinds) (length m.signature.kinds.items - s.own.kinds) in
      let (k, there) = get_below o.kinds.items i (omega (arith, l, r, fits, many)) in
      let name : k.name.items ≡ kind_at m i =
      sym (get_or_from_slice_get (map (λ (x : ObjectKind). x.name.items) o.kinds.items) i k.name.items [] (get_map (λ (x : ObjectKind). x.name.items) o.kinds.items i k there))
      ∙ ap (λ ns. get_or ns i []) (kind_names_same m o s) in
      let below : i < s.own.kinds = omega (arith, l, r, fits) in
      let exported : k.exported ≡ true = exported_kinds m o s i k (omega (arith, l, r, fits, many), get_or_from_slice_get o.kinds.items i k k there) ∙ lt-ltb i s.own.kinds below in
      found k there exported name (places.first_place k.name.items (kind_names oa.kinds.items)) refl
    where
      found : (k : ObjectKind) → slice_get o.kinds.items i ≡ Some k → k.exported ≡ true → k.name.items ≡ kind_at m i
          → (f : Option ℕ) → places.first_place k.name.items (kind_names oa.kinds.items) ≡ f → IsKindSeen a (kind_at m i)
      found k there exported name None e = absurd (same.kinds i (record {
        kind = k;
        there = there;
        exported = exported;
        other = λ x. let z : None ≡ Some k.arity = sym (ap (option_and_then (λ i. option_map (λ (k : ObjectKind). k.arity) (slice_get oa.kinds.items i))) e) ∙ x in cc;
      }))
      found k there exported name (Some p) e =
          subst (IsKindSeen a) name (finds.kinds k.name.items p (ap (places.first_place k.name.items) (sym (kind_names_same a oa t)) ∙ e))

  constant_there : (i : ℕ) → i < length m.signature.constants.items - length m.hidden_constants.items → IsConstantSeen a (constant_at m i)
  constant_there i l =
      let fits = s.constants_fit in
      let many = s.names.constants.many in
      let r = ap length s.hidden_constants ∙ range_length (32 + s.own.constants) (length m.signature.constants.items - s.own.constants) in
      let (c, there) = get_below o.constants.items i (omega (arith, l, r, fits, many)) in
      let name : c.name.items ≡ constant_at m i =
      sym (get_or_from_slice_get (map (λ (x : ObjectConstant). x.name.items) o.constants.items) i c.name.items [] (get_map (λ (x : ObjectConstant). x.name.items) o.constants.items i c there))
      ∙ ap (λ ns. get_or ns i []) (constant_names_same m o s) in
      let below : i < s.own.constants = omega (arith, l, r, fits) in
      let exported : c.exported ≡ true =
      exported_constants m o s i c (omega (arith, l, r, fits, many), get_or_from_slice_get o.constants.items i c c there) ∙ lt-ltb i s.own.constants below in
      found c there exported name (places.first_place c.name.items (constant_names oa.constants.items)) refl
    where
      found : (c : ObjectConstant) → slice_get o.constants.items i ≡ Some c → c.exported ≡ true → c.name.items ≡ constant_at m i
          → (f : Option ℕ) → places.first_place c.name.items (constant_names oa.constants.items) ≡ f → IsConstantSeen a (constant_at m i)
      found c there exported name None e = absurd (same.constants i (record {
        constant = c;
        there = there;
        exported = exported;
        other = subst (IsOtherAbove o oa c) (sym (ap (option_and_then (λ i. slice_get oa.constants.items i)) e)) tt;
      }))
      found c there exported name (Some p) e =
          subst (IsConstantSeen a) name (finds.constants c.name.items p (ap (places.first_place c.name.items) (sym (constant_names_same a oa t)) ∙ e))

  pub seen_in : IsSeenIn a m
  seen_in = record { kinds = kind_there; constants = constant_there }

-- on each edge
pub edges_seen : (ms : List Module) (os : List Object) (edges : List (ℕ × ℕ)) → ArePaired IsShaped ms (length ms) os → ((i : ℕ) (a : Module) → slice_get ms i ≡ Some a → Finds a)
    → All (AreSame os) edges → All (IsSeenEdge ms) edges
edges_seen ms os edges paired finds all = All-weaker (AreSame os) (IsSeenEdge ms) each edges all
  where
    each : (edge : ℕ × ℕ) → AreSame os edge → IsSeenEdge ms edge
    each edge same m a at above =
        let (o, there, s) = paired_at IsShaped ms os paired edge.0 m at in
        let (oa, over, t) = paired_at IsShaped ms os paired edge.1 a above in
        seen_in m a o oa s t (finds edge.1 a above) (same o oa there over)

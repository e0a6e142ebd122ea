-- The parts of a mapped circuit, made by a layout.
use Rattle.std.proofs.Common.{◌≡◌, ◌≢◌, ℕ, zero, suc, ◌+◌, ◌-◌, ◌<◌, ◌≤◌, inl, inr, List, [], ◌∷◌, ◌++◌, map, length, get_or, Some, slice_get, refl, sym, ◌∙◌, ap, subst, arith, append_assoc}
use Rattle.std.specs.Prelude.{Contains, All}
use Rattle.std.specs.List.{AllZip, range_with_len}
use Rattle.std.specs.Fmt.{decimal}
use Rattle.std.proofs.lemmas.Bool.{cases_lt}
use Rattle.std.proofs.lemmas.List.{map-append, get_or_past}
use Rattle.std.proofs.lemmas.List.FromFn.{map-range_with_len_more}
use Rattle.std.proofs.lemmas.Fmt.{decimal_digit}
use Rattle.std.proofs.lemmas.List.Elements.{Contains-get_or}
use Rattle.std.proofs.lemmas.Option.{get_or_from_slice_get}
use Rattle.tm_circuit.specs.Plain.{Plain, Drive, input, latch, gate, drive, is_gate}
use Rattle.tm_circuit.specs.Chain.{IsGate}
use Rattle.tm_circuit.specs.Sound.{IsSound}
use Rattle.tm_parts.specs.Fits.{plus}
use Rattle.tm_parts.specs.Runs.{joiner_of}
use Rattle.tm_unroll.specs.declared.node.Node.{Node}
use Rattle.tm_unroll.specs.Nodes.{node_at}
use Rattle.tm_unroll.specs.Mappings.{Table}
use Rattle.tm_mapped.specs.Mapped.{node_name, node_name_at}
use Rattle.tm_mapped.specs.Needed.{IsNeeded, output, of_leaf}
use Rattle.tm_mapped.proofs.StandLemmas.{placed}
use Rattle.tm_net.specs.declared.layout.Layout.{Layout}
use Rattle.tm_net.specs.declared.plan.Plan.{Plan}
use Rattle.tm_net.specs.Registers.{IsSmallMapping, registers_at, registers_before}
use Rattle.tm_net.specs.Layouts.{IsLayout, HasRoom, IsNumbered, IsEndWithin, FitsCircuit}
use Rattle.tm_net.specs.Making.{IsPlan, IsRegisterIn, IsTableIn, behind}
use Rattle.tm_net.proofs.EndLemmas.{ends_within}
use Rattle.tm_net.proofs.NeedLemmas.{next_inside}
use Rattle.tm_net.proofs.NumberLemmas.{low_numbers}

-- ---- lists

-- What holds of each item that a list contains holds of all.
pub all_from : {X : Type 0} (P : X → Type 0) (xs : List X) → ((x : X) → Contains xs x → P x) → All P xs
all_from P xs each k d inside = each (get_or xs k d) (Contains-get_or xs k d inside)

-- One pair more.
pub zip-push : {X Y : Type 0} (R : X → Y → Type 0) (xs : List X) (ys : List Y) (x : X) (y : Y) → AllZip R xs ys → R x y → AllZip R (xs ++ x ∷ []) (ys ++ y ∷ [])
zip-push R [] [] x y all one = (one, tt)
zip-push R [] (w ∷ ys) x y all one = absurd all
zip-push R (v ∷ xs) [] x y all one = absurd all
zip-push R (v ∷ xs) (w ∷ ys) x y all one = (all.0, zip-push R xs ys x y all.1 one)

-- ---- names

-- The name of a node ahead, with one digit.
pub moved_name : (c : Plain) (x : Node) (own : List ℕ) → slice_get c.names x.signal ≡ Some own → x.advance ≢ 0 → x.advance < 10
    → (own ++ joiner_of plus c) ++ (48 + x.advance) ∷ [] ≡ node_name c x
moved_name c x own is ahead low =
    let named : get_or c.names x.signal [] ≡ own = get_or_from_slice_get c.names x.signal own [] is in
    ap (λ digits. (own ++ joiner_of plus c) ++ digits) (sym (decimal_digit x.advance low))
    ∙ (ap (λ name. (name ++ joiner_of plus c) ++ decimal x.advance) (sym named) ∙ by_advance x.advance ahead)
  where
    by_advance : (a : ℕ) → a ≢ 0 → (get_or c.names x.signal [] ++ joiner_of plus c) ++ decimal a ≡ node_name_at c x.signal a
    by_advance zero some = absurd (some refl)
    by_advance (suc less) some = refl

-- ---- registers

-- What is known of a node at which its signal has a register.
pub record IsFitRegister (c : Plain) (plan : Plan) (x : Node) : Type 0 where
  pub signal : x.signal < length c.drives
  pub near : x.advance < 8
  pub step : IsGate c.drives x.signal → x.advance < plan.starts.steps
  pub behind : IsNumbered plan.layout (behind (drive c x.signal) x)

pub fit_register : (c : Plain) (plan : Plan) (x : Node) → IsSound c → IsPlan c plan → IsRegisterIn plan.layout x → IsFitRegister c plan x
fit_register c plan x sound is register =
    by_drive (drive c x.signal) refl (is.layout.ends x.signal inside)
  where
    inside : x.signal < length c.drives
    inside = let low = register.numbered.signal in let sized = is.layout.lows.sized in omega (arith, low, sized)

    by_drive : (d : Drive) → drive c x.signal ≡ d → IsEndWithin d plan.starts.steps (get_or plan.layout.ends.items x.signal 0) → IsFitRegister c plan x
    by_drive input is_d end = let before = register.before in absurd (omega (arith, end, before))
    by_drive (latch next init) is_d end =
        let before = register.before in
        let past = register.numbered.past in
        let zero_low : get_or plan.layout.lows.items x.signal 0 ≡ 0 = omega (arith, end, before, past) in
        let closed = is.layout.lows.closed x.signal next init inside is_d zero_low in
        let there = next_inside c sound x.signal next init inside is_d in
        let sized = is.layout.lows.sized in
        record {
          signal = inside;
          near = omega (arith, end, before);
          step = λ gate_is. let none = ap is_gate is_d in cc;
          behind = subst (λ (d : Drive). IsNumbered plan.layout (behind d x)) (sym is_d) (record { signal = omega (arith, there, sized); past = omega (arith, closed) });
        }
    by_drive (gate pins cover) is_d end =
        let before = register.before in
        let near = is.layout.near in
        let past = register.numbered.past in
        record {
          signal = inside;
          near = omega (arith, end, before, near);
          step = λ gate_is. omega (arith, end, before);
          behind = subst (λ (d : Drive). IsNumbered plan.layout (behind d x)) (sym is_d) (record { signal = register.numbered.signal; past = omega (arith, past) });
        }

-- One register more of a signal.
pub register_more : {X : Type 0} (f : Node → X) (s low advance : ℕ) (old items new : List X) (part : X) → low ≤ advance
    → items ≡ old ++ map f (map (λ a. node_at a s) (range_with_len low (advance - low))) → part ≡ f (node_at advance s) → new ≡ items ++ part ∷ []
    → new ≡ old ++ map f (map (λ a. node_at a s) (range_with_len low (advance + 1 - low)))
register_more f s low advance old items new part past so_far is longer =
    let count : advance + 1 - low ≡ (advance - low) + 1 = omega (arith, past) in
    let nodes : map (λ a. node_at a s) (range_with_len low ((advance - low) + 1)) ≡ map (λ a. node_at a s) (range_with_len low (advance - low)) ++ node_at advance s ∷ [] =
    map-range_with_len_more (λ a. node_at a s) low (advance - low) advance (omega (arith, past)) in
    let mapped : map f (map (λ a. node_at a s) (range_with_len low (advance + 1 - low))) ≡ map f (map (λ a. node_at a s) (range_with_len low (advance - low))) ++ f (node_at advance s) ∷ [] =
    ap (λ n. map f (map (λ a. node_at a s) (range_with_len low n))) count ∙ (ap (λ xs. map f xs) nodes ∙ map-append f (map (λ a. node_at a s) (range_with_len low (advance - low))) (node_at advance s ∷ [])) in
    longer ∙ (ap (λ xs. xs ++ part ∷ []) so_far
    ∙ (append_assoc old (map f (map (λ a. node_at a s) (range_with_len low (advance - low)))) (part ∷ [])
    ∙ (ap (λ y. old ++ (map f (map (λ a. node_at a s) (range_with_len low (advance - low))) ++ y ∷ [])) is
    ∙ ap (λ ys. old ++ ys) (sym mapped))))

-- The registers of one signal more.
pub registers_more : {X : Type 0} (f : Node → X) (lows ends : List ℕ) (s : ℕ) (items new : List X) → items ≡ map f (registers_before lows ends s)
    → new ≡ items ++ map f (registers_at lows ends s) → new ≡ map f (registers_before lows ends (s + 1))
registers_more f lows ends s items new so_far longer =
    let one : suc s ≡ s + 1 = omega arith in
    longer ∙ (ap (λ xs. xs ++ map f (registers_at lows ends s)) so_far
    ∙ (sym (map-append f (registers_before lows ends s) (registers_at lows ends s)) ∙ ap (λ n. map f (registers_before lows ends n)) one))

-- ---- the plan of a mapping

-- Numbers have room to grow by an advance.
layout_room : (c : Plain) (tables : List Table) (layout : Layout) → IsSound c → IsSmallMapping c tables → IsLayout c tables layout → HasRoom layout
layout_room c tables layout sound small is = record {
  ends = is.ends.sized ∙ sym is.least.chained.sized;
  firsts = let long = is.firsts.sized in let sized = is.least.chained.sized in omega (arith, long, sized);
  tops = is.tops.sized ∙ sym is.least.chained.sized;
  room = λ s. elim (cases_lt (length c.drives) s) [
    | inl past ↦
        let long = is.firsts.sized in
        let none = get_or_past layout.firsts.items s 0 (omega (arith, long, past)) in
        omega (arith, none)
    | inr inside ↦
        let low = low_numbers c tables layout.lows.items layout.ends.items sound small is.ends in
        let inputs = low.inputs in
        let registers = low.registers s inside in
        let first = is.firsts.each s inside in
        omega (arith, inputs, registers, first)
  ];
}

pub layout_fits : (c : Plain) (tables : List Table) (layout : Layout) (most : ℕ) → IsSound c → IsSmallMapping c tables → IsLayout c tables layout → most ≤ 8
    → ((t : Table) → Contains tables t → t.lag ≤ most) → FitsCircuit c most layout
layout_fits c tables layout most sound small is near low = record {
  near = near;
  room = layout_room c tables layout sound small is;
  lows = is.least.chained;
  within = is.least.within;
  ends = ends_within c tables layout.ends.items most is.ends low;
}

-- A needed node has a number.
needed_numbered : (c : Plain) (tables : List Table) (layout : Layout) → IsSound c → IsSmallMapping c tables → IsLayout c tables layout → (x : Node)
    → IsNeeded c tables x → IsNumbered layout x
needed_numbered c tables layout sound small is x needed = record {
  signal = let inside = (placed c small.k small.d tables sound small.lawful x needed).signal in let sized = is.least.chained.sized in omega (arith, inside, sized);
  past = is.least.reached x needed;
}

pub outputs_numbered : (c : Plain) (tables : List Table) (layout : Layout) → IsSound c → IsSmallMapping c tables → IsLayout c tables layout
    → All (λ s. IsNumbered layout (node_at 0 s)) c.outputs
outputs_numbered c tables layout sound small is =
    all_from (λ s. IsNumbered layout (node_at 0 s)) c.outputs (λ s stands. needed_numbered c tables layout sound small is (node_at 0 s) (output s stands))

pub tables_fit : (c : Plain) (tables : List Table) (layout : Layout) → IsSound c → IsSmallMapping c tables → IsLayout c tables layout
    → All (IsTableIn c layout) tables
tables_fit c tables layout sound small is =
    all_from (IsTableIn c layout) tables (λ t stands.
    let table = small.lawful.each t stands in
    record {
      gate = table.gate;
      near = let lag = table.lag in let near = small.near in omega (arith, lag, near);
      few = let few = table.leaves.few in let most = small.few in omega (arith, few, most);
      covers = table.covers;
      leaves = λ x leaf. needed_numbered c tables layout sound small is x (of_leaf t x stands leaf);
    })

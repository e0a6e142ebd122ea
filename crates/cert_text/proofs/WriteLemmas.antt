-- The text of a certificate, written piece by piece.
use Rattle.std.proofs.Common.{◌≡◌, ℕ, List, [], ◌∷◌, ◌++◌, map, length, codes, decimal, refl, sym, ◌∙◌, ap, append_assoc, append-nil}
use Rattle.std.specs.List.{flat_map, join_with_byte}
use Rattle.std.proofs.lemmas.Grind.{flat_map-append}
use Rattle.tm_unroll.specs.declared.node.Node.{Node}
use Rattle.tm_unroll.specs.Mappings.{Table}
use Rattle.tm_replay.specs.Replays.{Drop}
use Rattle.cert_text.specs.Certificates.{Certificate, further_word, line_text, leaf_word, walk_word, counted, table_words, drop_words, certificate_text}

-- the words of a line, joined: the first, and each other behind a blank
join-further : (word : List ℕ) (words : List (List ℕ)) → join_with_byte 32 (word ∷ words) ≡ word ++ flat_map further_word words
join-further word [] = sym (append-nil word)
join-further word (next ∷ words) = ap (λ xs. word ++ 32 ∷ xs) (join-further next words)

line_written : (out word : List ℕ) (words : List (List ℕ)) (end : List ℕ) → end ≡ flat_map further_word words
    → ((out ++ word) ++ end) ++ 10 ∷ [] ≡ out ++ line_text (word ∷ words)
line_written out word words end e =
    ap (λ xs. xs ++ 10 ∷ []) (append_assoc out word end ∙ ap (λ xs. out ++ xs) (ap (λ xs. word ++ xs) e ∙ sym (join-further word words)))
    ∙ append_assoc out (join_with_byte 32 (word ∷ words)) (10 ∷ [])

pub table_written : (t : Table) (gate lag : ℕ) (leaves : List Node) (out o1 o2 o3 o4 o5 : List ℕ) → gate ≡ t.gate → lag ≡ t.lag → leaves ≡ t.leaves
    → o1 ≡ out ++ codes "table" → o2 ≡ o1 ++ further_word (decimal gate) → o3 ≡ o2 ++ further_word (decimal lag)
    → o4 ≡ o3 ++ flat_map further_word (map leaf_word leaves) → o5 ≡ o4 ++ 10 ∷ [] → o5 ≡ out ++ line_text (table_words t)
table_written t gate lag leaves out o1 o2 o3 o4 o5 is_gate is_lag are_leaves e1 e2 e3 e4 e5 =
    let a : List ℕ = further_word (decimal t.gate) in
    let b : List ℕ = further_word (decimal t.lag) in
    let l : List ℕ = flat_map further_word (map leaf_word t.leaves) in
    let second : o2 ≡ o1 ++ a = e2 ∙ ap (λ n. o1 ++ further_word (decimal n)) is_gate in
    let third : o3 ≡ o1 ++ (a ++ b) = e3 ∙ ap (λ n. o2 ++ further_word (decimal n)) is_lag ∙ ap (λ xs. xs ++ b) second ∙ append_assoc o1 a b in
    let fourth : o4 ≡ o1 ++ (a ++ (b ++ l)) =
    e4 ∙ ap (λ xs. o3 ++ flat_map further_word (map leaf_word xs)) are_leaves ∙ ap (λ xs. xs ++ l) third ∙ append_assoc o1 (a ++ b) l ∙ ap (λ xs. o1 ++ xs) (append_assoc a b l) in
    e5 ∙ ap (λ xs. xs ++ 10 ∷ []) (fourth ∙ ap (λ xs. xs ++ (a ++ (b ++ l))) e1)
    ∙ line_written out (codes "table") (decimal t.gate ∷ decimal t.lag ∷ map leaf_word t.leaves) (a ++ (b ++ l)) refl

pub drop_written : (d : Drop) (gate lag arrival : ℕ) (walks : List (List ℕ)) (out o1 o2 o3 o4 o5 o6 : List ℕ) → gate ≡ d.gate → lag ≡ d.lag → arrival ≡ d.arrival → walks ≡ d.walks
    → o1 ≡ out ++ codes "drop" → o2 ≡ o1 ++ further_word (decimal gate) → o3 ≡ o2 ++ further_word (decimal lag)
    → o4 ≡ o3 ++ further_word (decimal arrival) → o5 ≡ o4 ++ flat_map further_word (map walk_word walks) → o6 ≡ o5 ++ 10 ∷ [] → o6 ≡ out ++ line_text (drop_words d)
drop_written d gate lag arrival walks out o1 o2 o3 o4 o5 o6 is_gate is_lag is_arrival are_walks e1 e2 e3 e4 e5 e6 =
    let a : List ℕ = further_word (decimal d.gate) in
    let b : List ℕ = further_word (decimal d.lag) in
    let x : List ℕ = further_word (decimal d.arrival) in
    let w : List ℕ = flat_map further_word (map walk_word d.walks) in
    let second : o2 ≡ o1 ++ a = e2 ∙ ap (λ n. o1 ++ further_word (decimal n)) is_gate in
    let third : o3 ≡ o1 ++ (a ++ b) = e3 ∙ ap (λ n. o2 ++ further_word (decimal n)) is_lag ∙ ap (λ xs. xs ++ b) second ∙ append_assoc o1 a b in
    let fourth : o4 ≡ o1 ++ (a ++ (b ++ x)) =
    e4 ∙ ap (λ n. o3 ++ further_word (decimal n)) is_arrival ∙ ap (λ xs. xs ++ x) third ∙ append_assoc o1 (a ++ b) x ∙ ap (λ xs. o1 ++ xs) (append_assoc a b x) in
    let fifth : o5 ≡ o1 ++ (a ++ (b ++ (x ++ w))) =
    e5 ∙ ap (λ xs. o4 ++ flat_map further_word (map walk_word xs)) are_walks ∙ ap (λ xs. xs ++ w) fourth ∙ append_assoc o1 (a ++ (b ++ x)) w
    ∙ ap (λ xs. o1 ++ xs) (append_assoc a (b ++ x) w ∙ ap (λ xs. a ++ xs) (append_assoc b x w)) in
    e6 ∙ ap (λ xs. xs ++ 10 ∷ []) (fifth ∙ ap (λ xs. xs ++ (a ++ (b ++ (x ++ w)))) e1)
    ∙ line_written out (codes "drop") (decimal d.gate ∷ decimal d.lag ∷ decimal d.arrival ∷ map walk_word d.walks) (a ++ (b ++ (x ++ w))) refl

regrouped : (a0 a1 a2 ts ad ds e : List ℕ) → ((((((([] ++ a0) ++ a1) ++ a2) ++ ts) ++ ad) ++ ds) ++ e) ≡ ((a0 ++ (a1 ++ (a2 ++ ts))) ++ (ad ++ ds)) ++ (e ++ [])
regrouped a0 a1 a2 ts ad ds e = simp (append_assoc, append-nil)

pub certificate_written : (c : Certificate) (version period many_tables many_drops : ℕ) (tables : List Table) (drops : List Drop) (o0 o1 o2 o3 o4 o5 o6 o7 : List ℕ)
    → version ≡ c.version → period ≡ c.period → many_tables ≡ length c.tables → many_drops ≡ length c.drops → tables ≡ c.tables → drops ≡ c.drops
    → o0 ≡ [] → o1 ≡ o0 ++ line_text (counted (codes "turbomap") version)
    → o2 ≡ o1 ++ line_text (counted (codes "period") period) → o3 ≡ o2 ++ line_text (counted (codes "tables") many_tables)
    → o4 ≡ o3 ++ flat_map line_text (map table_words tables) → o5 ≡ o4 ++ line_text (counted (codes "drops") many_drops)
    → o6 ≡ o5 ++ flat_map line_text (map drop_words drops) → o7 ≡ o6 ++ line_text (codes "end" ∷ []) → o7 ≡ certificate_text c
unfolding certificate_text
certificate_written c version period many_tables many_drops tables drops o0 o1 o2 o3 o4 o5 o6 o7 is_version is_period are_many_tables are_many_drops are_tables are_drops e0 e1 e2 e3 e4 e5 e6 e7 =
    let l0 : List (List ℕ) = counted (codes "turbomap") c.version in
    let l1 : List (List ℕ) = counted (codes "period") c.period in
    let l2 : List (List ℕ) = counted (codes "tables") (length c.tables) in
    let ts : List (List (List ℕ)) = map table_words c.tables in
    let ld : List (List ℕ) = counted (codes "drops") (length c.drops) in
    let ds : List (List (List ℕ)) = map drop_words c.drops in
    let le : List (List ℕ) = codes "end" ∷ [] in
    let d1 : o1 ≡ [] ++ line_text l0 = e1 ∙ ap (λ n. o0 ++ line_text (counted (codes "turbomap") n)) is_version ∙ ap (λ xs. xs ++ line_text l0) e0 in
    let d2 : o2 ≡ ([] ++ line_text l0) ++ line_text l1 = e2 ∙ ap (λ n. o1 ++ line_text (counted (codes "period") n)) is_period ∙ ap (λ xs. xs ++ line_text l1) d1 in
    let d3 : o3 ≡ (([] ++ line_text l0) ++ line_text l1) ++ line_text l2 = e3 ∙ ap (λ n. o2 ++ line_text (counted (codes "tables") n)) are_many_tables ∙ ap (λ xs. xs ++ line_text l2) d2 in
    let d4 : o4 ≡ ((([] ++ line_text l0) ++ line_text l1) ++ line_text l2) ++ flat_map line_text ts =
    e4 ∙ ap (λ xs. o3 ++ flat_map line_text (map table_words xs)) are_tables ∙ ap (λ xs. xs ++ flat_map line_text ts) d3 in
    let d5 : o5 ≡ (((([] ++ line_text l0) ++ line_text l1) ++ line_text l2) ++ flat_map line_text ts) ++ line_text ld =
    e5 ∙ ap (λ n. o4 ++ line_text (counted (codes "drops") n)) are_many_drops ∙ ap (λ xs. xs ++ line_text ld) d4 in
    let d6 : o6 ≡ ((((([] ++ line_text l0) ++ line_text l1) ++ line_text l2) ++ flat_map line_text ts) ++ line_text ld) ++ flat_map line_text ds =
    e6 ∙ ap (λ xs. o5 ++ flat_map line_text (map drop_words xs)) are_drops ∙ ap (λ xs. xs ++ flat_map line_text ds) d5 in
    e7 ∙ ap (λ xs. xs ++ line_text le) d6
    ∙ regrouped (line_text l0) (line_text l1) (line_text l2) (flat_map line_text ts) (line_text ld) (flat_map line_text ds) (line_text le)
    ∙ sym (flat_map-append line_text ((l0 ∷ l1 ∷ l2 ∷ ts) ++ (ld ∷ ds)) (le ∷ []) ∙ ap (λ xs. xs ++ (line_text le ++ [])) (flat_map-append line_text (l0 ∷ l1 ∷ l2 ∷ ts) (ld ∷ ds)))

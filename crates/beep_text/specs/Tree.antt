-- What an element is: a name, attributes, and what it holds, in the order written (RFC 3080,
-- section 6.4).
-- The code keeps lists of parts; here what an element holds is one type, and a run of characters is
-- one part of it.
use Rattle.std.specs.Prelude.{◌≡◌, ℕ, ◌+◌, ◌==◌, List, [], ◌∷◌, map, if◌then◌else◌}
use Rattle.std.proofs.Common.{refl, ap, ap₂, ◌∙◌}
use Rattle.std.specs.Coded.{Coded, code_by, coded×, coded_ℕ, coded_list}
use Rattle.beep_text.specs.declared.attr.Attr.{Attr}

-- what an element holds: nothing, or some parts and one last part
pub data Items : Type 0 where
  nothing : Items
  with_chars : Items → List ℕ → Items
  with_child : Items → List ℕ → List Attr → Items → Items

-- an element
pub record Tree : Type 0 where
  pub name : List ℕ
  pub attrs : List Attr
  pub items : Items

-- ---- how it is stored, for proofs alone

abbrev pub Token : Type 0
Token = ℕ × (List ℕ × List (List ℕ × List ℕ))

abbrev pub pair_of : Attr → List ℕ × List ℕ
pair_of a = (a.name, a.value)

abbrev pub attr_of : List ℕ × List ℕ → Attr
attr_of p = record { name = p.0; value = p.1 }

abbrev pub tokens : Items → List Token → List Token
tokens nothing rest = rest
tokens (with_chars items cs) rest = tokens items ((0, (cs, [])) ∷ rest)
tokens (with_child items name attrs inside) rest =
    tokens items ((1, ([], [])) ∷ tokens inside ((2, (name, map pair_of attrs)) ∷ rest))

abbrev pub closed_up : List Items → List ℕ → List Attr → Items → Items
closed_up [] name attrs inside = inside
closed_up (up ∷ ups) name attrs inside = with_child up name attrs inside

abbrev pub tail_of : List Items → List Items
tail_of [] = []
tail_of (up ∷ ups) = ups

abbrev pub built : Items → List Items → List Token → Items
built now ups [] = now
built now ups (t ∷ ts) = built
    (if t.0 == 0 then with_chars now t.1.0 else (if t.0 == 1 then nothing
    else closed_up ups t.1.0 (map attr_of t.1.1) now))
    (if t.0 == 0 then ups else (if t.0 == 1 then now ∷ ups else tail_of ups)) ts

pub attrs_back : (attrs : List Attr) → map attr_of (map pair_of attrs) ≡ attrs
attrs_back [] = refl
attrs_back (a ∷ attrs) = ap (λ settings. a ∷ settings) (attrs_back attrs)

pub built_back : (items : Items) (ups : List Items) (rest : List Token)
    → built nothing ups (tokens items rest) ≡ built items ups rest
built_back nothing ups rest = refl
built_back (with_chars items cs) ups rest = built_back items ups ((0, (cs, [])) ∷ rest)
built_back (with_child items name attrs inside) ups rest =
    let closing : Token = (2, (name, map pair_of attrs)) in
    built_back items ups ((1, ([], [])) ∷ tokens inside (closing ∷ rest))
    ∙ built_back inside (items ∷ ups) (closing ∷ rest)
    ∙ ap (λ settings. built (with_child items name settings inside) ups rest) (attrs_back attrs)

abbrev pub tree_code : Coded Tree
tree_code =
    code_by (List ℕ × (List (List ℕ × List ℕ) × List Token))
    (coded× (coded_list coded_ℕ) (coded×
    (coded_list (coded× (coded_list coded_ℕ) (coded_list coded_ℕ)))
    (coded_list (coded× coded_ℕ (coded× (coded_list coded_ℕ)
    (coded_list (coded× (coded_list coded_ℕ) (coded_list coded_ℕ))))))))
    (λ t. (t.name, (map pair_of t.attrs, tokens t.items [])))
    (λ p. record { name = p.0; attrs = map attr_of p.1.0; items = built nothing [] p.1.1 })
    (λ t. ap₂ (λ settings parts. record {
      name = t.name;
      attrs = settings;
      items = parts;
    }) (attrs_back t.attrs) (built_back t.items [] []))

-- ---- how large it is, for proofs alone

-- how many parts there are, at all levels
abbrev pub size_of : Items → ℕ
size_of nothing = 0
size_of (with_chars items cs) = size_of items + 1
size_of (with_child items name attrs inside) = size_of items + size_of inside + 1

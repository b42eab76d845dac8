-- A line as a whole: it is whole exactly if it has at most 64 bytes and is its fields, parted by one tab and ended by
-- LF, in their right number; and where each of them starts. Assumes nothing.
use mathlib.Core.Path.{◌≡◌, refl, sym, ap, ◌∙◌}
use mathlib.Core.Bool.{true}
use mathlib.Core.List.{List, [], ◌∷◌, ◌++◌, append_assoc}
use Prim.Native.Nat.{ℕ, suc, ◌+◌, ◌-◌, ◌≤◌}
use native.Mathlib.Numerals.{unary_clauses}
use native.Mathlib.Omega.{arith}
use lib.Dec.{eqb, leb}
use lib.ListN.{length, get_or, length-append}
use lib.Seq.{drop-append_seam, get_or-append_seam}
use borrow.Author.Tests.{eq-eqb, eqb-true, ne_eqb, le-leb, leb-true}
use Rattle.truth.proofs.Cases.{by_test}
use Rattle.truth.proofs.Laws.{and-true, true≢false}
use Rattle.decimal.specs.Field.{tab, line_feed}
use Rattle.sheet_line.specs.Field.{field_at, field_of, is_end, read_as}
use Rattle.sheet_line.specs.Form.{ends_line, is_sheet_line, longest_sheet_line}
use Rattle.sheet_line.specs.Column.{how_many, is_parted, is_whole}
use Rattle.sheet_line.specs.Parts.{OfThree, OfTwo, Plain, Three, Two}

-- ---- how often a byte stands in a text
many_append : (x : ℕ) (s t : List ℕ) → how_many x (s ++ t) ≡ how_many x s + how_many x t
unfolding how_many
many_append x [] t = omega arith
many_append x (b ∷ s) t = by_test (eqb b x) (λ e. rw e (omega (arith, many_append x s t))) (λ e. rw e (many_append x s t))

module _ (x b : ℕ) (text : List ℕ) where
  many_this : b ≡ x → how_many x (b ∷ text) ≡ suc (how_many x text)
  unfolding how_many
  many_this e = rw (eq-eqb b x e)

  many_other : ¬ (b ≡ x) → how_many x (b ∷ text) ≡ how_many x text
  unfolding how_many
  many_other e = rw (ne_eqb b x e)

none : (x : ℕ) → how_many x [] ≡ 0
unfolding how_many
none x = refl

-- a byte that stands in a text parts it at its first place
pub record PartedAt (x : ℕ) (text : List ℕ) : Type 0 where
  pub before : List ℕ
  pub after : List ℕ
  pub parts : text ≡ before ++ (x ∷ after)
  pub not-before : how_many x before ≡ 0

parted_at : (x : ℕ) (text : List ℕ) → 1 ≤ how_many x text → PartedAt x text
unfolding how_many
parted_at x [] h = absurd (omega arith)
parted_at x (b ∷ text) h =
    by_test (eqb b x)
    (λ e. record { before = []; after = text; parts = ap (λ (y : ℕ). y ∷ text) (eqb-true b x e); not-before = refl })
    (λ e.
    let p = parted_at x text (rw e at h) in
    record { before = b ∷ p.before; after = p.after; parts = ap (λ (l : List ℕ). b ∷ l) p.parts; not-before = rw e p.not-before })

-- a line that ends with LF
ends_init : (line : List ℕ) → ends_line line ≡ true → (init : List ℕ) × (line ≡ init ++ (line_feed ∷ []))
ends_init [] e = absurd (true≢false (sym e))
ends_init (b ∷ []) e = ([], ap (λ (x : ℕ). x ∷ []) (eqb-true b line_feed e))
ends_init (b ∷ (d ∷ rest)) e =
    let same : get_or (d ∷ rest) (length (d ∷ rest) - 1) 0 ≡ get_or (b ∷ (d ∷ rest)) (length (b ∷ (d ∷ rest)) - 1) 0 = simp unary_clauses refl in
    let (init, p) = ends_init (d ∷ rest) (rw same e) in
    (b ∷ init, ap (λ (l : List ℕ). b ∷ l) p)

pub last_byte : (text : List ℕ) → ends_line (text ++ (line_feed ∷ [])) ≡ true
last_byte text =
    let place : length (text ++ (line_feed ∷ [])) - 1 ≡ length text = rw length-append (omega arith) in
    rw (place, get_or-append_seam text line_feed [] 0)

-- ---- a field stands up to the byte after it
pub field_plain : (field : List ℕ) (end : ℕ) (rest : List ℕ) → Plain field → is_end end ≡ true
    → field_of (field ++ (end ∷ rest)) ≡ field
unfolding field_of how_many
field_plain [] end rest p e = rw e
field_plain (b ∷ field) end rest p e =
    by_test (eqb b tab)
    (λ t. absurd (omega (arith, rw t at p.no_tab)))
    (λ t. by_test (eqb b line_feed)
    (λ l. absurd (omega (arith, rw l at p.no_feed)))
    (λ l. rw (t, l, field_plain field end rest (record { no_tab = rw t at p.no_tab; no_feed = rw l at p.no_feed }) e)))

pub reads_plain : (before field : List ℕ) (end : ℕ) (rest : List ℕ) → Plain field → is_end end ≡ true
    → field_at (before ++ (field ++ (end ∷ rest))) (length before) ≡ read_as field (length before)
unfolding field_at
reads_plain before field end rest p e = rw (drop-append_seam before (field ++ (end ∷ rest)), field_plain field end rest p e)

-- ---- whole, exactly
module _ (line : List ℕ) (tabs : ℕ) (whole : is_whole tabs line ≡ true) where
  pub record Body : Type 0 where
    pub init : List ℕ
    pub bytes : line ≡ init ++ (line_feed ∷ [])
    pub no_feed : how_many line_feed init ≡ 0
    pub tabs_in : how_many tab init ≡ tabs
    pub short : length line ≤ 64

  body : Body
  body =
      let (is, parted) = and-true (is_sheet_line line) (is_parted tabs line) whole in
      let (few, ends) = and-true (leb (length line) longest_sheet_line) (ends_line line) is in
      let (feeds, between) = and-true (eqb (how_many line_feed line) 1) (eqb (how_many tab line) tabs) parted in
      let (init, p) = ends_init line ends in
      let one = eqb-true (how_many line_feed line) 1 feeds in
      let many = eqb-true (how_many tab line) tabs between in
      let f = ap (how_many line_feed) p ∙ many_append line_feed init (line_feed ∷ []) in
      let t = ap (how_many tab) p ∙ many_append tab init (line_feed ∷ []) in
      record {
        init = init;
        bytes = p;
        no_feed = omega (arith, f, one, many_this line_feed line_feed [] refl, none line_feed);
        tabs_in = omega (arith, t, many, many_other tab line_feed [] (λ e. omega arith), none tab);
        short = leb-true (length line) longest_sheet_line few;
      }

pub whole_two : (line : List ℕ) → is_whole 1 line ≡ true → OfTwo line
whole_two line whole =
    let o = body line 1 whole in
    let p = parted_at tab o.init (omega (arith, o.tabs_in)) in
    let t = sym (ap (how_many tab) p.parts ∙ many_append tab p.before (tab ∷ p.after)) ∙ o.tabs_in in
    let f = sym (ap (how_many line_feed) p.parts ∙ many_append line_feed p.before (tab ∷ p.after)) ∙ o.no_feed in
    let t₂ = many_this tab tab p.after refl in
    let f₂ = many_other line_feed tab p.after (λ e. omega arith) in
    record {
      a = p.before;
      b = p.after;
      parts = record {
        bytes = o.bytes ∙ (ap (λ (l : List ℕ). l ++ (line_feed ∷ [])) p.parts ∙ append_assoc p.before (tab ∷ p.after) (line_feed ∷ []));
        first = record { no_tab = p.not-before; no_feed = omega (arith, f) };
        second = record { no_tab = omega (arith, t, t₂); no_feed = omega (arith, f, f₂) };
        short = o.short;
      };
    }

pub whole_three : (line : List ℕ) → is_whole 2 line ≡ true → OfThree line
whole_three line whole =
    let o = body line 2 whole in
    let p = parted_at tab o.init (omega (arith, o.tabs_in)) in
    let t = sym (ap (how_many tab) p.parts ∙ many_append tab p.before (tab ∷ p.after)) ∙ o.tabs_in in
    let f = sym (ap (how_many line_feed) p.parts ∙ many_append line_feed p.before (tab ∷ p.after)) ∙ o.no_feed in
    let t₂ = many_this tab tab p.after refl in
    let f₂ = many_other line_feed tab p.after (λ e. omega arith) in
    let q = parted_at tab p.after (omega (arith, t, t₂, p.not-before)) in
    let t₃ = ap (how_many tab) q.parts ∙ many_append tab q.before (tab ∷ q.after) in
    let f₃ = ap (how_many line_feed) q.parts ∙ many_append line_feed q.before (tab ∷ q.after) in
    let t₄ = many_this tab tab q.after refl in
    let f₄ = many_other line_feed tab q.after (λ e. omega arith) in
    record {
      a = p.before;
      b = q.before;
      d = q.after;
      parts = record {
        bytes =
            o.bytes
            ∙ (ap (λ (l : List ℕ). l ++ (line_feed ∷ [])) p.parts
            ∙ (append_assoc p.before (tab ∷ p.after) (line_feed ∷ [])
            ∙ ap (λ (l : List ℕ). p.before ++ (tab ∷ l)) (ap (λ (l : List ℕ). l ++ (line_feed ∷ [])) q.parts ∙ append_assoc q.before (tab ∷ q.after) (line_feed ∷ []))));
        first = record { no_tab = p.not-before; no_feed = omega (arith, f) };
        second = record { no_tab = q.not-before; no_feed = omega (arith, f, f₂, f₃) };
        third = record { no_tab = omega (arith, t, t₂, t₃, t₄, p.not-before, q.not-before); no_feed = omega (arith, f, f₂, f₃, f₄) };
        short = o.short;
      };
    }

-- and back
is_whole_lem : (line init : List ℕ) (tabs : ℕ) → line ≡ init ++ (line_feed ∷ []) → how_many line_feed init ≡ 0
    → how_many tab init ≡ tabs → length line ≤ 64 → is_whole tabs line ≡ true
is_whole_lem line init tabs p f t short =
    let f₂ = many_append line_feed init (line_feed ∷ []) in
    let t₂ = many_append tab init (line_feed ∷ []) in
    let feeds : how_many line_feed line ≡ 1 = ap (how_many line_feed) p ∙ omega (arith, f, f₂, many_this line_feed line_feed [] refl, none line_feed) in
    let between : how_many tab line ≡ tabs = ap (how_many tab) p ∙ omega (arith, t, t₂, many_other tab line_feed [] (λ e. omega arith), none tab) in
    let ends : ends_line line ≡ true = rw p (last_byte init) in
    rw (le-leb (length line) longest_sheet_line short, ends, eq-eqb _ _ feeds, eq-eqb _ _ between)

pub two_whole : (line a b : List ℕ) → Two line a b → is_whole 1 line ≡ true
two_whole line a b w =
    is_whole_lem line (a ++ (tab ∷ b)) 1 (w.bytes ∙ sym (append_assoc a (tab ∷ b) (line_feed ∷ [])))
    (many_append line_feed a (tab ∷ b) ∙ omega (arith, w.first.no_feed, w.second.no_feed, many_other line_feed tab b (λ e. omega arith)))
    (many_append tab a (tab ∷ b) ∙ omega (arith, w.first.no_tab, w.second.no_tab, many_this tab tab b refl))
    w.short

pub three_whole : (line a b d : List ℕ) → Three line a b d → is_whole 2 line ≡ true
three_whole line a b d w =
    is_whole_lem line (a ++ (tab ∷ (b ++ (tab ∷ d)))) 2
    (w.bytes ∙ sym (append_assoc a (tab ∷ (b ++ (tab ∷ d))) (line_feed ∷ []) ∙ ap (λ (l : List ℕ). a ++ (tab ∷ l)) (append_assoc b (tab ∷ d) (line_feed ∷ []))))
    (many_append line_feed a (tab ∷ (b ++ (tab ∷ d)))
    ∙ omega (
      arith,
      w.first.no_feed,
      w.second.no_feed,
      w.third.no_feed,
      many_other line_feed tab (b ++ (tab ∷ d)) (λ e. omega arith),
      many_append line_feed b (tab ∷ d),
      many_other line_feed tab d (λ e. omega arith),
    ))
    (many_append tab a (tab ∷ (b ++ (tab ∷ d)))
    ∙ omega (arith, w.first.no_tab, w.second.no_tab, w.third.no_tab, many_this tab tab (b ++ (tab ∷ d)) refl, many_append tab b (tab ∷ d), many_this tab tab d refl))
    w.short

use Rattle.std.proofs.Common.{rules, ◌++◌, ◌≡◌, ◌+◌, ◌≤◌, true, List, [], ◌∷◌, length, get_or, take, Result, Ok, Err, is_ok, OnOk, refl, sym, ap, ◌∙◌, arith}
use Rattle.std.proofs.lemmas.List.{append-nil, append_assoc, length-append}
use Rattle.rope_text.specs.declared.text_info.TextInfo.{TextInfo}
use Rattle.rope_leaf.specs.Tree.{Tree, height_of, breaks_of}
use Rattle.rope_tree.specs.NewList.{new_list, nodes_in}
use Rattle.rope_tree.proofs.RowLaws.{part_siblings, siblings_of}
use Rattle.rope_tree.proofs.node.row.list_of.Goals.{Then-is_ok, Then-is_ok-2, Then-is_ok-3}
use Rattle.rope_tree.proofs.node.row.list_of.Goals as goal

got : {T E P : Type 0} (r : Result T E) → is_ok r ≡ true → OnOk r P → P
got (Ok x) e p = p
got (Err x) e p = absurd (cc)

-- the first node is the first of those that have totals
module _ (d : Tree) where
  pub first_height : (totals : List TextInfo) (nodes : List Tree)
      → 1 ≤ length (take (length totals) nodes)
      → (get_or nodes 0 d).height ≡ height_of (take (length totals) nodes)
  first_height [] nodes some = absurd (omega arith)
  first_height (t ∷ ts) [] some = absurd (omega arith)
  first_height (t ∷ ts) (x ∷ xs) some = refl

  pub first_breaks : (totals : List TextInfo) (nodes : List Tree)
      → 1 ≤ length (take (length totals) nodes)
      → (get_or nodes 0 d).breaks ≡ breaks_of (take (length totals) nodes)
  first_breaks [] nodes some = absurd (omega arith)
  first_breaks (t ∷ ts) [] some = absurd (omega arith)
  first_breaks (t ∷ ts) (x ∷ xs) some = refl

-- the nodes of the list after each row
one : (c : Then-is_ok) → nodes_in (new_list c.push_row.new.totals c.push_row.new.places)
    ≡ c.args.rows.now.0.nodes.now
one c =
    let none : nodes_in (new_list c.children.inside.totals c.children.inside.nodes) ≡ [] =
    search rules in
    got c.push_row.result (sym c.is_ok.ensures.value ∙ c.if-is_ok.true) c.push_row.ensures.nodes
    ∙ ap (λ l. l ++ c.args.rows.now.0.nodes.now) none

two : (c : Then-is_ok-2)
    → nodes_in (new_list c.push_row-then-is_ok.new.totals c.push_row-then-is_ok.new.places)
    ≡ c.args.rows.now.0.nodes.now ++ c.args.rows.now.1.nodes.now
two c =
    let none : nodes_in (new_list c.children.inside.totals c.children.inside.nodes) ≡ [] =
    search rules in
    got c.push_row-then-is_ok.result (sym c.is_ok-then-is_ok.ensures.value ∙ c.if-is_ok-2.true)
    c.push_row-then-is_ok.ensures.nodes
    ∙ ap (λ l. l ++ c.args.rows.now.1.nodes.now)
    (got c.push_row.result (sym c.is_ok.ensures.value ∙ c.if-is_ok.true) c.push_row.ensures.nodes
    ∙ ap (λ l. l ++ c.args.rows.now.0.nodes.now) none)

three : (c : Then-is_ok-3)
    → nodes_in (new_list c.push_row-then-is_ok-2.new.totals c.push_row-then-is_ok-2.new.places)
    ≡ c.args.rows.now.0.nodes.now ++ (c.args.rows.now.1.nodes.now ++ c.args.rows.now.2.nodes.now)
three c =
    let none : nodes_in (new_list c.children.inside.totals c.children.inside.nodes) ≡ [] =
    search rules in
    got c.push_row-then-is_ok-2.result (sym c.is_ok-then-is_ok-2.ensures.value ∙ c.if-is_ok-3.true)
    c.push_row-then-is_ok-2.ensures.nodes
    ∙ ap (λ l. l ++ c.args.rows.now.2.nodes.now)
    (got c.push_row-then-is_ok.result (sym c.is_ok-then-is_ok.ensures.value ∙ c.if-is_ok-2.true)
    c.push_row-then-is_ok.ensures.nodes
    ∙ ap (λ l. l ++ c.args.rows.now.1.nodes.now)
    (got c.push_row.result (sym c.is_ok.ensures.value ∙ c.if-is_ok.true) c.push_row.ensures.nodes
    ∙ ap (λ l. l ++ c.args.rows.now.0.nodes.now) none))
    ∙ append_assoc c.args.rows.now.0.nodes.now c.args.rows.now.1.nodes.now
    c.args.rows.now.2.nodes.now

pub push_row-requires-clause-room : goal.push_row-requires-clause-room
push_row-requires-clause-room c =
    let a = c.args.rows.now.0.nodes.now in
    let now = nodes_in (new_list c.children.inside.totals c.children.inside.nodes) in
    let none : now ≡ [] = search rules in
    omega (
      arith,
      ap length none,
      length-append a (c.args.rows.now.1.nodes.now ++ c.args.rows.now.2.nodes.now),
      c.requires.children.at_most_24,
    )

pub push_row-requires-then-is_ok-clause-room : goal.push_row-requires-then-is_ok-clause-room
push_row-requires-then-is_ok-clause-room c =
    let a = c.args.rows.now.0.nodes.now in
    let b = c.args.rows.now.1.nodes.now in
    let d = c.args.rows.now.2.nodes.now in
    omega (
      arith,
      ap length (one (goal.at.push_row-requires-then-is_ok-clause-room c).Then-is_ok),
      length-append a (b ++ d),
      length-append b d,
      c.requires.children.at_most_24,
    )

pub push_row-requires-clause-siblings : goal.push_row-requires-clause-siblings
push_row-requires-clause-siblings c =
    let a = c.args.rows.now.0.nodes.now in
    let ts = a ++ (c.args.rows.now.1.nodes.now ++ c.args.rows.now.2.nodes.now) in
    let now = nodes_in (new_list c.children.inside.totals c.children.inside.nodes) in
    let none : now ≡ [] = search rules in
    part_siblings ts a (c.args.rows.now.1.nodes.now ++ c.args.rows.now.2.nodes.now) (now ++ a)
    (siblings_of _ _ ts c.requires.children) refl (ap (λ l. l ++ a) none)

pub push_row-requires-then-is_ok-clause-siblings : goal.push_row-requires-then-is_ok-clause-siblings
push_row-requires-then-is_ok-clause-siblings c =
    let a = c.args.rows.now.0.nodes.now in
    let b = c.args.rows.now.1.nodes.now in
    let d = c.args.rows.now.2.nodes.now in
    let ts = a ++ (b ++ d) in
    part_siblings ts (a ++ b) d (nodes_in (new_list c.push_row.new.totals c.push_row.new.places)
    ++ b) (siblings_of _ _ ts c.requires.children)
    (sym (append_assoc a b d))
    (ap (λ l. l ++ b) (one (goal.at.push_row-requires-then-is_ok-clause-siblings c).Then-is_ok))

pub push_row-requires-then-is_ok-2-clause-room : goal.push_row-requires-then-is_ok-2-clause-room
push_row-requires-then-is_ok-2-clause-room c =
    let a = c.args.rows.now.0.nodes.now in
    let b = c.args.rows.now.1.nodes.now in
    let d = c.args.rows.now.2.nodes.now in
    omega (
      arith,
      ap length (two
          (goal.at.push_row-requires-then-is_ok-2-clause-room c).Then-is_ok-2),
      length-append a b,
      length-append a (b ++ d),
      length-append b d,
      c.requires.children.at_most_24,
    )

pub push_row-requires-then-is_ok-2-clause-siblings :
    goal.push_row-requires-then-is_ok-2-clause-siblings
push_row-requires-then-is_ok-2-clause-siblings c =
    let a = c.args.rows.now.0.nodes.now in
    let b = c.args.rows.now.1.nodes.now in
    let d = c.args.rows.now.2.nodes.now in
    let ts = a ++ (b ++ d) in
    part_siblings ts ts [] (nodes_in
    (new_list c.push_row-then-is_ok.new.totals c.push_row-then-is_ok.new.places) ++ d)
    (siblings_of _ _ ts c.requires.children) (sym (append-nil ts))
    (ap (λ l. l ++ d) (two (goal.at.push_row-requires-then-is_ok-2-clause-siblings c).Then-is_ok-2)
    ∙ append_assoc a b d)

pub invariant_of-children : goal.invariant_of-children
invariant_of-children c =
    let new = c.push_row-then-is_ok-2.new in
    let ok : is_ok c.push_row-then-is_ok-2.result ≡ true = sym c.is_ok-then-is_ok-2.ensures.value
    ∙ c.if-is_ok-3.true in
    let list = got c.push_row-then-is_ok-2.result ok c.push_row-then-is_ok-2.ensures.list in
    let all = three (goal.at.invariant_of-children c).Then-is_ok-3 in
    let some : 1 ≤ length (nodes_in (new_list new.totals new.places)) =
    omega (arith, ap length all, c.requires.children.at_least_two) in
    record {
      room = list.room;
      totals_right = list.totals_right;
      above = ap (λ n. n + 1) (c.height.ensures.value
          ∙ first_height c.index-children-0.result new.totals new.places some);
      same_breaks = c.line_breaks-children-inside.ensures
          ∙ first_breaks c.index-children-0-then-is_ok-3.result new.totals new.places some;
      places = list.places;
    }

pub returns-then-is_ok-3-clause-ok : goal.returns-then-is_ok-3-clause-ok
returns-then-is_ok-3-clause-ok c = three (goal.at.returns-then-is_ok-3-clause-ok c).Then-is_ok-3

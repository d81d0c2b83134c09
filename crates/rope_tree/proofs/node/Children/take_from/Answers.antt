use Rattle.std.proofs.Common.{◌≡◌, ◌+◌, ◌-◌, ◌≤◌, List, ◌++◌, length, take, drop, refl, sym, ap, ◌∙◌, arith}
use Rattle.std.specs.List.{All}
use Rattle.std.proofs.lemmas.List.{take_all, length-append, length-take, length-drop, drop-take}
use Rattle.std.proofs.lemmas.List.Elements.{All-take, All-drop}
use Rattle.rope_text.specs.TextInfo.{info_of}
use Rattle.rope_leaf.specs.Tree.{Tree, joined, height_of, breaks_of, IsChild}
use Rattle.rope_leaf.specs.Flat.{IsFlat}
use Rattle.rope_tree.specs.NewList.{new_list, nodes_in, IsNewList}
use Rattle.rope_tree.specs.Rows.{IsPart}
use Rattle.rope_leaf.specs.Totals.{IsTotalOf}
use Rattle.rope_leaf.proofs.Descents.{front_is}
use Rattle.rope_tree.proofs.PartLaws.{has_base, part_few, part_in, is_new_list_part}
use Rattle.rope_tree.proofs.RowLaws.{last_counts_all}
use Rattle.rope_leaf.proofs.SiblingLaws.{siblings_right}
use Rattle.rope_tree.proofs.MoveLaws.{first_height, first_breaks, kept_seen, kept_listed}
use Rattle.rope_leaf.proofs.TreeLaws.{height_of_is, breaks_of_is}
use Rattle.rope_tree.proofs.node.Children.take_from.Goals.{After-total_before-before, After-exchange}
use Rattle.rope_tree.proofs.node.Children.take_from.Goals as goal

module _ (c : After-total_before-before) where
  abbrev xs : List Tree
  xs = c.args.self.now

  abbrev os : List Tree
  os = c.args.other.now

  abbrev ts : List Tree
  ts = drop c.args.from os

  pub len_os : c.len-past.result ≡ length os
  len_os = omega (
    arith,
    c.len-past.ensures,
    c.other.invariant.totals_right.as_many,
    ap length c.other.view_is,
  )

  pub some : 1 ≤ length ts
  some = omega (arith, len_os, c.if-from-past.false, length-drop c.args.from os)

  pub few_os : length os ≤ 24
  few_os = omega (
    arith,
    ap length c.other.view_is,
    length-take (length c.other.inside.totals) c.other.inside.nodes,
    c.other.invariant.room,
  )

  abbrev pub part : IsPart ts c.other.inside.totals c.args.from
  part = record {
    whole = os;
    level = c.requires.level_other;
    few = few_os;
    totals_right = rw c.other.view_is at c.other.invariant.totals_right;
    within = omega (arith, len_os, c.if-from-past.false);
    is = sym (take_all (length ts) ts (omega arith));
  }

  pub base : c.total_before-base.result ≡ info_of (breaks_of os) (joined (take c.args.from os))
  base =
      front_is (breaks_of os) c.other.inside.totals os c.args.from c.total_before-base.result
      part.totals_right (omega (arith, part.within, part.totals_right.as_many))
      c.total_before-base.ensures.first c.total_before-base.ensures.later

  pub list : IsNewList (new_list c.self.inside.totals c.self.inside.nodes)
  list = record {
    room = c.self.invariant.room;
    totals_right = c.self.invariant.totals_right;
    places = c.self.invariant.places;
  }

  pub told : IsTotalOf xs c.total_before-before.result
  told = rw c.self.view_is at (last_counts_all (new_list c.self.inside.totals c.self.inside.nodes)
      c.len-len.result c.total_before-before.result list c.len-len.ensures
      c.total_before-before.ensures.first c.total_before-before.ensures.later)

  -- the height and the set of line breaks of all
  pub same_height : height_of os ≡ height_of (xs ++ ts)
  same_height =
      let each = All-drop (IsChild (breaks_of os) (height_of os)) c.args.from os
      c.requires.level_other.each in
      sym (height_of_is (breaks_of os) (height_of os) ts some each)
      ∙ height_of_is (breaks_of (xs ++ ts)) (height_of (xs ++ ts)) ts some
      (siblings_right _ _ xs ts c.requires.level).each

  pub same_breaks : breaks_of os ≡ breaks_of (xs ++ ts)
  same_breaks =
      let each = All-drop (IsChild (breaks_of os) (height_of os)) c.args.from os
      c.requires.level_other.each in
      sym (breaks_of_is (breaks_of os) (height_of os) ts some each)
      ∙ breaks_of_is (breaks_of (xs ++ ts)) (height_of (xs ++ ts)) ts some
      (siblings_right _ _ xs ts c.requires.level).each

  long : length ts ≡ c.len-past.result - c.args.from
  long = omega (arith, len_os, length-drop c.args.from os)

  -- the nodes that move
  pub moved : take (c.len-past.result - c.args.from) (drop c.args.from c.other.inside.nodes) ≡ ts
  moved =
      let n : c.args.from + (c.len-past.result - c.args.from) ≡ length c.other.inside.totals =
      omega (arith, c.if-from-past.false, c.len-past.ensures) in
      sym (drop-take c.args.from (c.len-past.result - c.args.from) c.other.inside.nodes)
      ∙ ap (λ k. drop c.args.from (take k c.other.inside.nodes)) n
      ∙ ap (drop c.args.from) c.other.view_is

pub take_from-requires-clause-part : goal.take_from-requires-clause-part
take_from-requires-clause-part c j d lt =
    let e = (goal.at.take_from-requires-clause-part c).After-total_before-before in
    has_base (xs e) (ts e) c.other.inside.totals c.args.from (part e) (some e) c.requires.level
    c.total_before-base.result c.total_before-before.result (base e) (told e) j d
    (omega (arith, lt, long e, c.len-past.ensures))

pub take_from-requires-clause-fits : goal.take_from-requires-clause-fits
take_from-requires-clause-fits c j d lt =
    let e = (goal.at.take_from-requires-clause-fits c).After-total_before-before in
    part_few (xs e) (ts e) c.other.inside.totals c.args.from (part e) (some e) c.requires.level
    c.total_before-base.result c.total_before-before.result (base e) (told e) c.requires.few j d
    (omega (arith, lt, long e, c.len-past.ensures))

module _ (c : After-exchange) where
  abbrev e : After-total_before-before
  e = (goal.at.After-exchange c).After-total_before-before

  -- the nodes of the list after the move
  places : c.exchange.new.places ≡ take c.len-len.result c.self.inside.nodes
      ++ (ts e ++ drop (c.len-len.result + length (ts e)) c.self.inside.nodes)
  places = c.exchange.ensures.first
      ∙ ap (λ l. take c.len-len.result c.self.inside.nodes
      ++ (l ++ drop (c.len-len.result + (c.len-past.result - c.args.from)) c.self.inside.nodes))
      (moved e)
      ∙ ap (λ n. take c.len-len.result c.self.inside.nodes
      ++ (ts e ++ drop (c.len-len.result + n) c.self.inside.nodes)) (sym (long e))

  room_left : length (xs e) + length (ts e) ≤ 24
  room_left = omega (arith, c.requires.room, length-append (xs e) (ts e))

  many : length (ts e) ≡ length c.other.inside.totals - c.args.from
  many = omega (arith, long e, c.len-past.ensures)

  pub seen : nodes_in (new_list c.take_from.new.self c.exchange.new.places) ≡ xs e ++ ts e
  seen =
      part_in (xs e) (ts e) c.other.inside.totals c.args.from (part e) (some e) c.requires.level
      c.total_before-base.result c.total_before-before.result (base e) (told e)
      (new_list c.self.inside.totals c.self.inside.nodes)
      (new_list c.take_from.new.self c.exchange.new.places) (list e) c.self.view_is
      c.len-len.result c.len-len.ensures
      (omega (arith, c.take_from.ensures.len, many)) c.take_from.ensures.before
      (λ j d lt. c.take_from.ensures.following j d (omega (arith, lt, many))) places room_left

  pub new : IsNewList (new_list c.take_from.new.self c.exchange.new.places)
  new =
      is_new_list_part (xs e) (ts e) c.other.inside.totals c.args.from (part e) (some e)
      c.requires.level c.total_before-base.result c.total_before-before.result (base e) (told e)
      (new_list c.self.inside.totals c.self.inside.nodes)
      (new_list c.take_from.new.self c.exchange.new.places) (list e) c.self.view_is
      c.len-len.result c.len-len.ensures
      (omega (arith, c.take_from.ensures.len, many)) c.take_from.ensures.before
      (λ j d lt. c.take_from.ensures.following j d (omega (arith, lt, many))) places room_left

  -- the entries of the other list: its first nodes, and empty ones
  others_len : length c.exchange.new.others ≡ 24
  others_len = omega (
    arith,
    ap length c.exchange.ensures.second,
    length-append (take c.args.from c.other.inside.nodes)
        (take (c.len-past.result - c.args.from) (drop c.len-len.result c.self.inside.nodes)
        ++ drop (c.args.from + (c.len-past.result - c.args.from)) c.other.inside.nodes),
    length-append (take (c.len-past.result - c.args.from)
        (drop c.len-len.result c.self.inside.nodes))
        (drop (c.args.from + (c.len-past.result - c.args.from)) c.other.inside.nodes),
    length-take c.args.from c.other.inside.nodes,
    length-take (c.len-past.result - c.args.from) (drop c.len-len.result c.self.inside.nodes),
    length-drop c.len-len.result c.self.inside.nodes,
    length-drop (c.args.from + (c.len-past.result - c.args.from)) c.other.inside.nodes,
    c.self.invariant.room,
    c.other.invariant.room,
    c.if-from-past.false,
    len_os e,
    few_os e,
    long e,
    room_left,
    c.len-len.ensures,
    c.self.invariant.totals_right.as_many,
    ap length c.self.view_is,
  )

  pub first_flat : All IsFlat
      (take (c.len-past.result - c.args.from) (drop c.len-len.result c.self.inside.nodes))
  first_flat =
      All-take IsFlat (c.len-past.result - c.args.from) (drop c.len-len.result c.self.inside.nodes)
      (rw c.len-len.ensures c.self.invariant.places)

  pub second_flat : All IsFlat
      (drop (c.args.from + (c.len-past.result - c.args.from)) c.other.inside.nodes)
  second_flat =
      let n : c.args.from + (c.len-past.result - c.args.from) ≡ length c.other.inside.totals =
      omega (arith, c.if-from-past.false, c.len-past.ensures) in
      rw n c.other.invariant.places

pub invariant_of-self : goal.invariant_of-self
invariant_of-self c =
    let k = (goal.at.invariant_of-self c).After-exchange in
    let i = new k in
    record {
      room = i.room;
      totals_right = i.totals_right;
      above = c.other.invariant.above ∙ ap (λ l. height_of l + 1) c.other.view_is
          ∙ ap (λ m. m + 1) (same_height (e k)) ∙ ap (λ l. height_of l + 1) (sym (seen k));
      same_breaks = c.other.invariant.same_breaks ∙ ap breaks_of c.other.view_is
          ∙ same_breaks (e k) ∙ ap breaks_of (sym (seen k));
      places = i.places;
    }

pub invariant_of-other : goal.invariant_of-other
invariant_of-other c =
    let k = (goal.at.invariant_of-other c).After-exchange in
    kept_listed c.other.inside _ (os (e k)) c.args.from _ _ c.other.invariant c.other.view_is
    (part (e k)).within c.take_from.ensures.rest c.exchange.ensures.second (others_len k)
    (first_flat k) (second_flat k) (rw c.if-from-eq0.true refl) (rw c.if-from-eq0.true refl)

pub invariant_of-other-else-from-eq0 : goal.invariant_of-other-else-from-eq0
invariant_of-other-else-from-eq0 c =
    let k = (goal.at.invariant_of-other-else-from-eq0 c).After-exchange in
    kept_listed c.other.inside _ (os (e k)) c.args.from _ _ c.other.invariant c.other.view_is
    (part (e k)).within c.take_from.ensures.rest c.exchange.ensures.second (others_len k)
    (first_flat k) (second_flat k)
    (c.other.invariant.above ∙ ap (λ l. height_of l + 1) c.other.view_is
    ∙ ap (λ m. m + 1)
    (sym (first_height c.args.from (os (e k)) (omega (arith, c.if-from-eq0.false)))))
    (c.other.invariant.same_breaks ∙ ap breaks_of c.other.view_is
    ∙ sym (first_breaks c.args.from (os (e k)) (omega (arith, c.if-from-eq0.false))))

pub returns-else-from-eq0-clause-moved : goal.returns-else-from-eq0-clause-moved
returns-else-from-eq0-clause-moved c =
    seen (goal.at.returns-else-from-eq0-clause-moved c).After-exchange

pub exchange-requires-clause-within : goal.exchange-requires-clause-within
exchange-requires-clause-within c =
    let e = (goal.at.exchange-requires-clause-within c).After-total_before-before in
    omega (arith, len_os e, few_os e, c.other.invariant.room, c.if-from-past.false)

pub returns-then-from-eq0-clause-moved : goal.returns-then-from-eq0-clause-moved
returns-then-from-eq0-clause-moved c =
    seen (goal.at.returns-then-from-eq0-clause-moved c).After-exchange

pub returns-else-from-eq0-clause-rest : goal.returns-else-from-eq0-clause-rest
returns-else-from-eq0-clause-rest c =
    let k = (goal.at.returns-else-from-eq0-clause-rest c).After-exchange in
    kept_seen c.other.inside (record {
      height = height_of (take c.args.from (os (e k))) + 1;
      breaks = breaks_of (take c.args.from (os (e k)));
      last = c.other.inside.last;
      totals = c.take_from.new.others;
      nodes = c.exchange.new.others;
    }) (os (e k)) c.args.from _ _ c.other.invariant c.other.view_is (part (e k)).within
    c.take_from.ensures.rest c.exchange.ensures.second (others_len k) (first_flat k)
    (second_flat k) refl refl

use Rattle.std.proofs.Common.{◌≡◌, ◌≢◌, ◌++◌, [], length, map, option_map, rules, arith, refl, sym, ap, ◌∙◌, length-drop}
use Rattle.std.proofs.lemmas.Bool.{eqb-true}
use Rattle.line_fields.specs.meaning.Fields.{trim_start}
use Rattle.condition_grammar.specs.calls.Cursor.{token_of}
use Rattle.condition_grammar.specs.meaning.Lexing.{tokens_of}
use Rattle.condition_grammar.proofs.Places.{map-push}
use Rattle.condition_grammar.proofs.Splitting.{length-0, cut_first, cut_other, cut_end, cut_next, trim_start-trim_start, length-trim_start}
use Rattle.condition_grammar.proofs.tokens.cut.Goals as goal

pub loop-front-init : goal.loop-front-init
loop-front-init c =
    let front = c.trim_start-front.result.now in
    let e = c.trim_start-front.ensures in
    record {
      so_far = cut_first c.args.text.now front e ∙ ap (λ cut. option_map (λ ts. map token_of cut ++ ts) (tokens_of front)) (sym c.new-tokens.ensures.items);
      trimmed = ap trim_start e ∙ trim_start-trim_start c.args.text.now ∙ sym e;
    }

pub returns-in_default : goal.returns-in_default
returns-in_default c =
    let some : c.loop-front.front.now ≢ [] = search rules in
    (c.loop-front.invariant.so_far ∙ cut_other c.loop-front.front.now c.loop-front.invariant.trimmed (map token_of c.loop-front.tokens.items) some (sym c.in_default.ensures.token), refl)

pub loop-front-smaller : goal.loop-front-smaller
loop-front-smaller c =
    let behind = c.split_at.result.1.now in
    omega (arith, length-trim_start behind, ap length c.trim_start-front-in-loop-front.ensures, ap length c.split_at.ensures.back, length-drop c.in-Some.size c.loop-front.front.now, c.in-Some.ensures.within.0, c.in-Some.ensures.within.1)

pub loop-front-preserved : goal.loop-front-preserved
loop-front-preserved c =
    let front = c.loop-front.front.now in
    let behind = c.split_at.result.1.now in
    let later = c.trim_start-front-in-loop-front.result.now in
    let later_is = c.trim_start-front-in-loop-front.ensures in
    let cut = map token_of c.loop-front.tokens.items in
    record {
      so_far = c.loop-front.invariant.so_far
          ∙ cut_next front c.loop-front.invariant.trimmed cut behind later (token_of c.in-Some.token) c.in-Some.size (sym c.in-Some.ensures.token) c.in-Some.ensures.within.0 c.split_at.ensures.back later_is
          ∙ ap (λ cut. option_map (λ ts. cut ++ ts) (tokens_of later)) (sym (map-push token_of c.loop-front.tokens.items c.push.new.self.items c.in-Some.token c.in_ok-push.ensures.items));
      trimmed = ap trim_start later_is ∙ trim_start-trim_start behind ∙ sym later_is;
    }

pub returns : goal.returns
returns c =
    let front = c.loop-front.front.now in
    let none : front ≡ [] = length-0 front (omega (arith, eqb-true (length front) 0 (sym c.is_empty.ensures ∙ c.loop-front-test.false))) in
    c.loop-front.invariant.so_far ∙ cut_end front c.loop-front.invariant.trimmed (map token_of c.loop-front.tokens.items) none

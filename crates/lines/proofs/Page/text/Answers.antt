-- `text` meets its contract: as much as there is room for is written behind what the page has. Assumes nothing.
use mathlib.Core.Path.{refl}
use Rattle.lines.proofs.PutsLaws.{ends_put}
use Rattle.lines.proofs.Page.text.Goals as goal

pub returns : goal.returns
returns c =
    let page = c.args.self.now in
    record {
      same = refl;
      prints = record {
        written = c.put_from.ensures;
        ends = ends_put page.bytes.now _ c.args.text.now page.end c.min.result page.within c.put_from.ensures c.min.ensures;
      };
    }

use Rattle.simulation_law.proofs.Products.{IsFunctionOf-products}
use Rattle.simulation_law.proofs.products_law.Goals as goal

pub returns : goal.returns
returns c = IsFunctionOf-products
